use Rattle.std.proofs.Common.{Global, ap, refl, ◌∙◌}
use Rattle.std.specs.String.{string_bytes}
use Rattle.command_line.specs.declared.words.Asked.TheVariants as asked
use Rattle.command_files.specs.Answers.{files_of}
use Rattle.lwbench.specs.Command.{IsAnswerTo}
use Rattle.lwbench.proofs.Ended.{answered}
use Rattle.lwbench.proofs.asked.answer_text.Goals as goal

pub returns : goal.returns
returns g c = λ terminal words is_read.
    let right : IsAnswerTo (g.W.Files.holds c.args.world.now) (asked.Text c.args.text c.args.is_mistake)
    c.printed-answer.result = (
      c.printed-answer.ensures.status ∙ c.of_text.ensures,
      ap (string_bytes {Z = Global}) c.printed-answer.ensures.text,
      ap files_of c.printed-answer.ensures.file,
    ) in
    answered _ _ _ (g.W.World.seen c.args.world.now) _ terminal words
    (asked.Text c.args.text c.args.is_mistake) c.printed-answer.result
    c.deliver.result is_read right refl (refl, refl, refl) c.deliver.ensures.status c.deliver.ensures.made
    c.deliver.ensures.printed c.deliver.ensures.refused c.deliver.ensures.aside
