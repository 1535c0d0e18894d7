-- What the words ask for: a subcommand whose value is missing asks for nothing.
use Rattle.std.proofs.Common.{◌≡◌, ◌≢◌, ◌⊎◌, ◌↔◌, IsTrue, Bool, true, false, not, ◌&&◌, List, [], None, codes, rules}
use Rattle.std.proofs.Common.{ℕ, Option, Some, is_some, option_map, refl, inl, inr, sym, ap, subst, ◌∙◌}
use Rattle.clap.specs.Words.{App, HasKind, HasMatchesOf, IsAmong, Row, Text as Word, all_of, fault_of, first_of, is_simple}
use Rattle.clap.specs.Words.{is_simple_and_free, kind_of, subcommand_of, subcommand_rows_of}
use Rattle.clap.specs.declared.parser.matches.ArgMatches.{ArgMatches}
use Rattle.clap.specs.declared.error.Error.{Error}
use Rattle.clap.specs.declared.error.kind.ErrorKind.TheVariants as kind
use Rattle.command_line.specs.declared.words.Job.{Job}
use Rattle.command_line.specs.declared.words.Job.TheVariants as jobs
use Rattle.command_line.specs.declared.words.Live.{Live}
use Rattle.command_line.specs.declared.fleet_words.AskedFleet.{AskedFleet}
use Rattle.command_line.specs.declared.verdict_words.AskedVerdict.{AskedVerdict}
use Rattle.command_line.specs.declared.wire_words.AskedWire.{AskedWire}
use Rattle.command_line.specs.declared.words.Asked.{Asked}
use Rattle.command_line.specs.declared.words.Asked.TheVariants as asked
use Rattle.command_line.specs.declared.words.TraceForm.{TraceForm}
use Rattle.command_line.specs.declared.words.TraceForm.TheVariants as forms
use Rattle.command_line.specs.declared.words.CaseForm.{CaseForm}
use Rattle.command_line.specs.declared.words.CaseForm.TheVariants as case_forms
use Rattle.command_line.specs.Words.{AsksFor, AsksForCaseForm, AsksForFleet, AsksForForm, AsksForLog, AsksForVerdict}
use Rattle.command_line.specs.Words.{AsksForWire, AsksToLive, MayHaveForm, StandsWith}
use Rattle.command_line.specs.Words.{IsReadAs, IsRefusedAs, MayAskFor, bench_app, is_set, refusals}
use Rattle.command_line.specs.Inside.{IsTakenAs, LacksFleet, LacksJoin, LacksLint, LacksLive, LacksOne, LacksPlay}
use Rattle.command_line.specs.Inside.{LacksRun, LacksSay, LacksShow, LacksTest, LacksVerdict, LacksWire}
use Rattle.command_line.specs.Inside.{IsNoPlainName, TakesNoList, WantsOtherForm, WantsTwoCaseForms, WantsTwoForms}

-- words that exclude each other ask for no form
one_form : (rows : List Row) (form : TraceForm) → WantsTwoForms rows → AsksForForm rows form → ⊥
one_form rows forms.Text (json, why) asks = cc
one_form rows forms.Reasons (json, why) asks = cc
one_form rows forms.JsonLines (json, why) asks = cc

pub no_one : (rows : List Row) (job : Job) → LacksOne rows → AsksFor (codes "one", rows) job → ⊥
no_one rows (jobs.One hex form) (inl none) asks = search rules
no_one rows (jobs.One hex form) (inr both) asks = one_form rows form both asks.2
no_one rows (jobs.Say hex server) none asks = search rules
no_one rows (jobs.Spell statement) none asks = search rules
no_one rows (jobs.Play file device from to form) none asks = search rules
no_one rows (jobs.Asm input output) none asks = search rules
no_one rows (jobs.Dis input) none asks = search rules
no_one rows (jobs.Run image workers batch trace) none asks = search rules
no_one rows (jobs.Check image trace json) none asks = search rules
no_one rows (jobs.Show image trace device from to form) none asks = search rules
no_one rows (jobs.Pcap image trace output) none asks = search rules
no_one rows (jobs.Debug image trace reasons) none asks = search rules
no_one rows (jobs.Titles files only) none asks = search rules
no_one rows (jobs.Test files only form junit) none asks = search rules
no_one rows (jobs.Expect files image device only form junit) none asks = search rules
no_one rows (jobs.Join output images) none asks = search rules
no_one rows (jobs.Lint file only except form) none asks = search rules

pub no_spell : (rows : List Row) (job : Job) → all_of (codes "STATEMENT") rows ≡ None
    → AsksFor (codes "spell", rows) job → ⊥
no_spell rows (jobs.One hex form) none asks = search rules
no_spell rows (jobs.Say hex server) none asks = search rules
no_spell rows (jobs.Spell statement) none asks = cc
no_spell rows (jobs.Play file device from to form) none asks = search rules
no_spell rows (jobs.Asm input output) none asks = search rules
no_spell rows (jobs.Dis input) none asks = search rules
no_spell rows (jobs.Run image workers batch trace) none asks = search rules
no_spell rows (jobs.Check image trace json) none asks = search rules
no_spell rows (jobs.Show image trace device from to form) none asks = search rules
no_spell rows (jobs.Pcap image trace output) none asks = search rules
no_spell rows (jobs.Debug image trace reasons) none asks = search rules
no_spell rows (jobs.Titles files only) none asks = search rules
no_spell rows (jobs.Test files only form junit) none asks = search rules
no_spell rows (jobs.Expect files image device only form junit) none asks = search rules
no_spell rows (jobs.Join output images) none asks = search rules
no_spell rows (jobs.Lint file only except form) none asks = search rules

pub no_play : (rows : List Row) (job : Job) → LacksPlay rows → AsksFor (codes "play", rows) job → ⊥
no_play rows (jobs.One hex form) none asks = search rules
no_play rows (jobs.Say hex server) none asks = search rules
no_play rows (jobs.Spell statement) none asks = search rules
no_play rows (jobs.Play file device from to form) none asks = search rules
no_play rows (jobs.Asm input output) none asks = search rules
no_play rows (jobs.Dis input) none asks = search rules
no_play rows (jobs.Run image workers batch trace) none asks = search rules
no_play rows (jobs.Check image trace json) none asks = search rules
no_play rows (jobs.Show image trace device from to form) none asks = search rules
no_play rows (jobs.Pcap image trace output) none asks = search rules
no_play rows (jobs.Debug image trace reasons) none asks = search rules
no_play rows (jobs.Titles files only) none asks = search rules
no_play rows (jobs.Test files only form junit) none asks = search rules
no_play rows (jobs.Expect files image device only form junit) none asks = search rules
no_play rows (jobs.Join output images) none asks = search rules
no_play rows (jobs.Lint file only except form) none asks = search rules

pub no_asm : (rows : List Row) (job : Job) → (first_of (codes "IN") rows ≡ None) ⊎ (first_of (codes "OUT") rows ≡ None)
    → AsksFor (codes "asm", rows) job → ⊥
no_asm rows (jobs.One hex form) none asks = search rules
no_asm rows (jobs.Say hex server) none asks = search rules
no_asm rows (jobs.Spell statement) none asks = search rules
no_asm rows (jobs.Play file device from to form) none asks = search rules
no_asm rows (jobs.Asm input output) (inl none) asks = search rules
no_asm rows (jobs.Asm input output) (inr none) asks = search rules
no_asm rows (jobs.Dis input) none asks = search rules
no_asm rows (jobs.Run image workers batch trace) none asks = search rules
no_asm rows (jobs.Check image trace json) none asks = search rules
no_asm rows (jobs.Show image trace device from to form) none asks = search rules
no_asm rows (jobs.Pcap image trace output) none asks = search rules
no_asm rows (jobs.Debug image trace reasons) none asks = search rules
no_asm rows (jobs.Titles files only) none asks = search rules
no_asm rows (jobs.Test files only form junit) none asks = search rules
no_asm rows (jobs.Expect files image device only form junit) none asks = search rules
no_asm rows (jobs.Join output images) none asks = search rules
no_asm rows (jobs.Lint file only except form) none asks = search rules

pub no_dis : (rows : List Row) (job : Job) → first_of (codes "IN") rows ≡ None → AsksFor (codes "dis", rows) job → ⊥
no_dis rows (jobs.One hex form) none asks = search rules
no_dis rows (jobs.Say hex server) none asks = search rules
no_dis rows (jobs.Spell statement) none asks = search rules
no_dis rows (jobs.Play file device from to form) none asks = search rules
no_dis rows (jobs.Asm input output) none asks = search rules
no_dis rows (jobs.Dis input) none asks = search rules
no_dis rows (jobs.Run image workers batch trace) none asks = search rules
no_dis rows (jobs.Check image trace json) none asks = search rules
no_dis rows (jobs.Show image trace device from to form) none asks = search rules
no_dis rows (jobs.Pcap image trace output) none asks = search rules
no_dis rows (jobs.Debug image trace reasons) none asks = search rules
no_dis rows (jobs.Titles files only) none asks = search rules
no_dis rows (jobs.Test files only form junit) none asks = search rules
no_dis rows (jobs.Expect files image device only form junit) none asks = search rules
no_dis rows (jobs.Join output images) none asks = search rules
no_dis rows (jobs.Lint file only except form) none asks = search rules

pub no_run : (rows : List Row) (job : Job) → LacksRun rows → AsksFor (codes "run", rows) job → ⊥
no_run rows (jobs.One hex form) lacks asks = search rules
no_run rows (jobs.Say hex server) lacks asks = search rules
no_run rows (jobs.Spell statement) lacks asks = search rules
no_run rows (jobs.Play file device from to form) lacks asks = search rules
no_run rows (jobs.Asm input output) lacks asks = search rules
no_run rows (jobs.Dis input) lacks asks = search rules
no_run rows (jobs.Run image workers batch trace) (inl none) asks = search rules
no_run rows (jobs.Run image workers batch trace) (inr (inl none)) asks = none workers asks.2
no_run rows (jobs.Run image workers batch trace) (inr (inr none)) asks = none batch asks.3
no_run rows (jobs.Check image trace json) lacks asks = search rules
no_run rows (jobs.Show image trace device from to form) lacks asks = search rules
no_run rows (jobs.Pcap image trace output) lacks asks = search rules
no_run rows (jobs.Debug image trace reasons) lacks asks = search rules
no_run rows (jobs.Titles files only) lacks asks = search rules
no_run rows (jobs.Test files only form junit) lacks asks = search rules
no_run rows (jobs.Expect files image device only form junit) lacks asks = search rules
no_run rows (jobs.Join output images) lacks asks = search rules
no_run rows (jobs.Lint file only except form) lacks asks = search rules

pub no_check : (rows : List Row) (job : Job) → (first_of (codes "IMAGE") rows ≡ None)
    ⊎ (first_of (codes "TRACE") rows ≡ None) → AsksFor (codes "check", rows) job → ⊥
no_check rows (jobs.One hex form) none asks = search rules
no_check rows (jobs.Say hex server) none asks = search rules
no_check rows (jobs.Spell statement) none asks = search rules
no_check rows (jobs.Play file device from to form) none asks = search rules
no_check rows (jobs.Asm input output) none asks = search rules
no_check rows (jobs.Dis input) none asks = search rules
no_check rows (jobs.Run image workers batch trace) none asks = search rules
no_check rows (jobs.Check image trace json) (inl none) asks = search rules
no_check rows (jobs.Check image trace json) (inr none) asks = search rules
no_check rows (jobs.Show image trace device from to form) none asks = search rules
no_check rows (jobs.Pcap image trace output) none asks = search rules
no_check rows (jobs.Debug image trace reasons) none asks = search rules
no_check rows (jobs.Titles files only) none asks = search rules
no_check rows (jobs.Test files only form junit) none asks = search rules
no_check rows (jobs.Expect files image device only form junit) none asks = search rules
no_check rows (jobs.Join output images) none asks = search rules
no_check rows (jobs.Lint file only except form) none asks = search rules

pub no_show : (rows : List Row) (job : Job) → LacksShow rows → AsksFor (codes "show", rows) job → ⊥
no_show rows (jobs.One hex form) lacks asks = search rules
no_show rows (jobs.Say hex server) lacks asks = search rules
no_show rows (jobs.Spell statement) lacks asks = search rules
no_show rows (jobs.Play file device from to form) lacks asks = search rules
no_show rows (jobs.Asm input output) lacks asks = search rules
no_show rows (jobs.Dis input) lacks asks = search rules
no_show rows (jobs.Run image workers batch trace) lacks asks = search rules
no_show rows (jobs.Check image trace json) lacks asks = search rules
no_show rows (jobs.Show image trace device from to form) (inl none) asks = search rules
no_show rows (jobs.Show image trace device from to form) (inr none) asks = search rules
no_show rows (jobs.Pcap image trace output) lacks asks = search rules
no_show rows (jobs.Debug image trace reasons) lacks asks = search rules
no_show rows (jobs.Titles files only) lacks asks = search rules
no_show rows (jobs.Test files only form junit) lacks asks = search rules
no_show rows (jobs.Expect files image device only form junit) lacks asks = search rules
no_show rows (jobs.Join output images) lacks asks = search rules
no_show rows (jobs.Lint file only except form) lacks asks = search rules

pub no_debug : (rows : List Row) (job : Job) → (first_of (codes "IMAGE") rows ≡ None)
    ⊎ (first_of (codes "TRACE") rows ≡ None) → AsksFor (codes "debug", rows) job → ⊥
no_debug rows (jobs.One hex form) none asks = search rules
no_debug rows (jobs.Say hex server) none asks = search rules
no_debug rows (jobs.Spell statement) none asks = search rules
no_debug rows (jobs.Play file device from to form) none asks = search rules
no_debug rows (jobs.Asm input output) none asks = search rules
no_debug rows (jobs.Dis input) none asks = search rules
no_debug rows (jobs.Run image workers batch trace) none asks = search rules
no_debug rows (jobs.Check image trace json) none asks = search rules
no_debug rows (jobs.Show image trace device from to form) none asks = search rules
no_debug rows (jobs.Pcap image trace output) none asks = search rules
no_debug rows (jobs.Debug image trace reasons) (inl none) asks = search rules
no_debug rows (jobs.Debug image trace reasons) (inr none) asks = search rules
no_debug rows (jobs.Titles files only) none asks = search rules
no_debug rows (jobs.Test files only form junit) none asks = search rules
no_debug rows (jobs.Expect files image device only form junit) none asks = search rules
no_debug rows (jobs.Join output images) none asks = search rules
no_debug rows (jobs.Lint file only except form) none asks = search rules

pub no_pcap : (rows : List Row) (job : Job) → (first_of (codes "IMAGE") rows ≡ None)
    ⊎ ((first_of (codes "TRACE") rows ≡ None) ⊎ (first_of (codes "OUT") rows ≡ None))
    → AsksFor (codes "pcap", rows) job → ⊥
no_pcap rows (jobs.One hex form) none asks = search rules
no_pcap rows (jobs.Say hex server) none asks = search rules
no_pcap rows (jobs.Spell statement) none asks = search rules
no_pcap rows (jobs.Play file device from to form) none asks = search rules
no_pcap rows (jobs.Asm input output) none asks = search rules
no_pcap rows (jobs.Dis input) none asks = search rules
no_pcap rows (jobs.Run image workers batch trace) none asks = search rules
no_pcap rows (jobs.Check image trace json) none asks = search rules
no_pcap rows (jobs.Show image trace device from to form) none asks = search rules
no_pcap rows (jobs.Pcap image trace output) (inl none) asks = search rules
no_pcap rows (jobs.Pcap image trace output) (inr (inl none)) asks = search rules
no_pcap rows (jobs.Pcap image trace output) (inr (inr none)) asks = search rules
no_pcap rows (jobs.Debug image trace reasons) none asks = search rules
no_pcap rows (jobs.Titles files only) none asks = search rules
no_pcap rows (jobs.Test files only form junit) none asks = search rules
no_pcap rows (jobs.Expect files image device only form junit) none asks = search rules
no_pcap rows (jobs.Join output images) none asks = search rules
no_pcap rows (jobs.Lint file only except form) none asks = search rules

-- words that exclude each other ask for no titles, and for no cases that are played
one_case_form : (rows : List Row) (form : CaseForm) → WantsTwoCaseForms rows → AsksForCaseForm rows form → ⊥
one_case_form rows case_forms.Text (tap, json) asks = cc
one_case_form rows case_forms.Tap (tap, json) asks = cc
one_case_form rows case_forms.JsonLines (tap, json) asks = cc

titles_alone : (list tap json : Bool) (junit on : Option Word)
    → (list ≡ true) × ((tap ≡ true) ⊎ ((json ≡ true) ⊎ ((junit ≢ None) ⊎ (on ≢ None))))
    → (tap ≡ false) × (json ≡ false) → junit ≡ None → on ≡ None → ⊥
titles_alone list tap json junit on (lists, inl taps) no_form no_junit no_image = search rules
titles_alone list tap json junit on (lists, inr (inl lines)) no_form no_junit no_image = search rules
titles_alone list tap json junit on (lists, inr (inr (inl some))) no_form no_junit no_image = some no_junit
titles_alone list tap json junit on (lists, inr (inr (inr some))) no_form no_junit no_image = some no_image

pub no_test : (rows : List Row) (job : Job) → LacksTest rows → AsksFor (codes "test", rows) job → ⊥
no_test rows (jobs.One hex form) lacks asks = search rules
no_test rows (jobs.Say hex server) lacks asks = search rules
no_test rows (jobs.Spell statement) lacks asks = search rules
no_test rows (jobs.Play file device from to form) lacks asks = search rules
no_test rows (jobs.Asm input output) lacks asks = search rules
no_test rows (jobs.Dis input) lacks asks = search rules
no_test rows (jobs.Run image workers batch trace) lacks asks = search rules
no_test rows (jobs.Check image trace json) lacks asks = search rules
no_test rows (jobs.Show image trace device from to form) lacks asks = search rules
no_test rows (jobs.Pcap image trace output) lacks asks = search rules
no_test rows (jobs.Debug image trace reasons) lacks asks = search rules
no_test rows (jobs.Titles files only) (inl none) asks = cc
no_test rows (jobs.Titles files only) (inr (inl both)) asks = one_case_form rows case_forms.Text both asks.2
no_test rows (jobs.Titles files only) (inr (inr (inl both))) asks =
    titles_alone (is_set (codes "list") rows) (is_set (codes "tap") rows) (is_set (codes "json") rows)
    (first_of (codes "junit") rows) (first_of (codes "on") rows) both asks.2 asks.3 asks.4.no_image
no_test rows (jobs.Titles files only) (inr (inr (inr (none, given)))) asks =
    asks.4.no_device given.0 given.1
no_test rows (jobs.Test files only form junit) (inl none) asks = cc
no_test rows (jobs.Test files only form junit) (inr (inl both)) asks = one_case_form rows form both asks.2
no_test rows (jobs.Test files only form junit) (inr (inr (inl both))) asks =
    let lists : is_set (codes "list") rows ≡ true = both.0 in
    let plays : is_set (codes "list") rows ≡ false = asks.1 in
    cc
no_test rows (jobs.Test files only form junit) (inr (inr (inr (none, given)))) asks =
    asks.4.no_device given.0 given.1
no_test rows (jobs.Expect files image device only form junit) (inl none) asks = cc
no_test rows (jobs.Expect files image device only form junit) (inr (inl both)) asks =
    one_case_form rows form both asks.2
no_test rows (jobs.Expect files image device only form junit) (inr (inr (inl both))) asks =
    let lists : is_set (codes "list") rows ≡ true = both.0 in
    let plays : is_set (codes "list") rows ≡ false = asks.1 in
    cc
no_test rows (jobs.Expect files image device only form junit) (inr (inr (inr (none, given)))) asks =
    let some : first_of (codes "on") rows ≡ Some image.now = asks.4 in
    let lacks : first_of (codes "on") rows ≡ None = none in
    cc
no_test rows (jobs.Join output images) lacks asks = search rules
no_test rows (jobs.Lint file only except form) lacks asks = search rules

pub no_join : (rows : List Row) (job : Job) → LacksJoin rows → AsksFor (codes "join", rows) job → ⊥
no_join rows (jobs.One hex form) lacks asks = search rules
no_join rows (jobs.Say hex server) lacks asks = search rules
no_join rows (jobs.Spell statement) lacks asks = search rules
no_join rows (jobs.Play file device from to form) lacks asks = search rules
no_join rows (jobs.Asm input output) lacks asks = search rules
no_join rows (jobs.Dis input) lacks asks = search rules
no_join rows (jobs.Run image workers batch trace) lacks asks = search rules
no_join rows (jobs.Check image trace json) lacks asks = search rules
no_join rows (jobs.Show image trace device from to form) lacks asks = search rules
no_join rows (jobs.Pcap image trace output) lacks asks = search rules
no_join rows (jobs.Debug image trace reasons) lacks asks = search rules
no_join rows (jobs.Titles files only) lacks asks = search rules
no_join rows (jobs.Test files only form junit) lacks asks = search rules
no_join rows (jobs.Expect files image device only form junit) lacks asks = search rules
no_join rows (jobs.Join output images) (inl none) asks = search rules
no_join rows (jobs.Join output images) (inr none) asks = cc
no_join rows (jobs.Lint file only except form) lacks asks = search rules

-- a file and `--rules` exclude each other, and one of them has to be there
lint_alone : {X : Type 0} (f : X → Word) (listed : Bool) (word : Option Word) (file : Option X)
    → listed ≡ is_some word → word ≡ option_map f file → listed ≡ not (is_some file) → ⊥
lint_alone f listed word None both is lists = search rules
lint_alone f listed word (Some path) both is lists = search rules

-- without a file there is text alone
no_other_form : {X : Type 0} (f : X → Word) (rows : List Row) (word : Option Word) (file : Option X) (form : TraceForm)
    → word ≡ None → WantsOtherForm rows → word ≡ option_map f file → AsksForForm rows form → MayHaveForm file form → ⊥
no_other_form f rows word (Some path) form none other same asks alone = search rules
no_other_form f rows word None forms.Text none (inl json) same asks alone = cc
no_other_form f rows word None forms.Text none (inr why) same asks alone = cc
no_other_form f rows word None forms.Reasons none other same asks alone = cc
no_other_form f rows word None forms.JsonLines none other same asks alone = cc

pub no_lint : (rows : List Row) (job : Job) → LacksLint rows → AsksFor (codes "lint", rows) job → ⊥
no_lint rows (jobs.One hex form) lacks asks = search rules
no_lint rows (jobs.Say hex server) lacks asks = search rules
no_lint rows (jobs.Spell statement) lacks asks = search rules
no_lint rows (jobs.Play file device from to form) lacks asks = search rules
no_lint rows (jobs.Asm input output) lacks asks = search rules
no_lint rows (jobs.Dis input) lacks asks = search rules
no_lint rows (jobs.Run image workers batch trace) lacks asks = search rules
no_lint rows (jobs.Check image trace json) lacks asks = search rules
no_lint rows (jobs.Show image trace device from to form) lacks asks = search rules
no_lint rows (jobs.Pcap image trace output) lacks asks = search rules
no_lint rows (jobs.Debug image trace reasons) lacks asks = search rules
no_lint rows (jobs.Titles files only) lacks asks = search rules
no_lint rows (jobs.Test files only form junit) lacks asks = search rules
no_lint rows (jobs.Expect files image device only form junit) lacks asks = search rules
no_lint rows (jobs.Join output images) lacks asks = search rules
no_lint rows (jobs.Lint file only except form) (inl both) asks =
    lint_alone (λ p. p.now) (is_set (codes "rules") rows) (first_of (codes "FILE") rows) file both asks.1 asks.2
no_lint rows (jobs.Lint file only except form) (inr (inl two)) asks = one_form rows form two asks.5
no_lint rows (jobs.Lint file only except form) (inr (inr (none, other))) asks =
    no_other_form (λ p. p.now) rows (first_of (codes "FILE") rows) file form none other asks.1 asks.5 asks.6

-- a name that is no command's asks for nothing
pub no_other : (name : Word) (rows : List Row) (job : Job) → TakesNoList name → IsNoPlainName name
    → name ≢ codes "check" → name ≢ codes "show" → name ≢ codes "pcap" → name ≢ codes "debug"
    → AsksFor (name, rows) job → ⊥
no_other name rows (jobs.One hex form) listless plain check show pcap debug asks = plain.0 asks.0
no_other name rows (jobs.Say hex server) listless plain check show pcap debug asks = listless.0 asks.0
no_other name rows (jobs.Spell statement) listless plain check show pcap debug asks = listless.1 asks.0
no_other name rows (jobs.Play file device from to form) listless plain check show pcap debug asks = plain.1 asks.0
no_other name rows (jobs.Asm input output) listless plain check show pcap debug asks = plain.2 asks.0
no_other name rows (jobs.Dis input) listless plain check show pcap debug asks = plain.3 asks.0
no_other name rows (jobs.Run image workers batch trace) listless plain check show pcap debug asks = plain.4 asks.0
no_other name rows (jobs.Check image trace json) listless plain check show pcap debug asks = check asks.0
no_other name rows (jobs.Show image trace device from to form) listless plain check show pcap debug asks = show asks.0
no_other name rows (jobs.Pcap image trace output) listless plain check show pcap debug asks = pcap asks.0
no_other name rows (jobs.Debug image trace reasons) listless plain check show pcap debug asks = debug asks.0
no_other name rows (jobs.Titles files only) listless plain check show pcap debug asks = listless.2 asks.0.0
no_other name rows (jobs.Test files only form junit) listless plain check show pcap debug asks = listless.2 asks.0.0
no_other name rows (jobs.Expect files image device only form junit) listless plain check show pcap debug asks =
    listless.2 asks.0.0
no_other name rows (jobs.Join output images) listless plain check show pcap debug asks = listless.3 asks.0
no_other name rows (jobs.Lint file only except form) listless plain check show pcap debug asks = listless.4 asks.0

-- the words of a device on the network
lacks_live : (rows : List Row) (live : Live) → LacksLive rows → AsksToLive (codes "live", rows) live → ⊥
lacks_live rows live (inl none) asks = search rules
lacks_live rows live (inr (inl none)) asks = none live.device asks.2
lacks_live rows live (inr (inr (inl none))) asks = none live.port asks.3
lacks_live rows live (inr (inr (inr none))) asks = none live.turns asks.4

-- they ask for no job
live_alone : (rows : List Row) (job : Job) → AsksFor (codes "live", rows) job → ⊥
live_alone rows (jobs.One hex form) asks = search rules
live_alone rows (jobs.Say hex server) asks = search rules
live_alone rows (jobs.Spell statement) asks = search rules
live_alone rows (jobs.Play file device from to form) asks = search rules
live_alone rows (jobs.Asm input output) asks = search rules
live_alone rows (jobs.Dis input) asks = search rules
live_alone rows (jobs.Run image workers batch trace) asks = search rules
live_alone rows (jobs.Check image trace json) asks = search rules
live_alone rows (jobs.Show image trace device from to form) asks = search rules
live_alone rows (jobs.Pcap image trace output) asks = search rules
live_alone rows (jobs.Debug image trace reasons) asks = search rules
live_alone rows (jobs.Titles files only) asks = search rules
live_alone rows (jobs.Test files only form junit) asks = search rules
live_alone rows (jobs.Expect files image device only form junit) asks = search rules
live_alone rows (jobs.Join output images) asks = search rules
live_alone rows (jobs.Lint file only except form) asks = search rules

pub not_live : (rows : List Row) (wanted : Asked) → LacksLive rows → MayAskFor (codes "live", rows) wanted → ⊥
not_live rows (asked.Job job) lacks asks = live_alone rows job asks
not_live rows (asked.Log server) lacks asks = search rules
not_live rows (asked.Live live) lacks asks = lacks_live rows live lacks asks
not_live rows (asked.Fleet fleet) lacks asks = search rules
not_live rows (asked.Text text is_mistake) lacks asks = absurd asks

-- the words of a wire
lacks_wire : (rows : List Row) (wire : AskedWire) → LacksWire rows → AsksForWire rows wire → ⊥
lacks_wire rows wire (inl none) asks = none wire.late_by asks.5
lacks_wire rows wire (inr none) asks = none wire.seed asks.6

-- what stands without what it needs
stands_alone : {X Y Z : Type 0} (f : X → Y) (first : Option Z) (second : Option X) (word : Option Y) → first ≡ None
    → word ≢ None → word ≡ option_map f second → StandsWith first second → ⊥
stands_alone f first None word none some is stands = some is
stands_alone f None (Some x) word none some is stands = stands
stands_alone f (Some z) (Some x) word none some is stands = cc

no_file : {X Y : Type 0} (f : X → Y) (word : Option Y) (file : Option X) → word ≡ None → word ≡ option_map f file
    → file ≡ None
no_file f word None none is = refl
no_file f word (Some x) none is = cc

-- the words of a verdict
lacks_verdict : (rows : List Row) (verdict : AskedVerdict) → LacksVerdict rows → AsksForVerdict rows verdict → ⊥
lacks_verdict rows verdict (inl (none, some)) asks =
    stands_alone (λ p. p.now) (first_of (codes "save") rows) verdict.file (first_of (codes "expect") rows) none some
    asks.file asks.saved
lacks_verdict rows verdict (inr (none, some)) asks =
    stands_alone (λ p. p.now) verdict.file verdict.junit (first_of (codes "junit") rows)
    (no_file (λ p. p.now) (first_of (codes "expect") rows) verdict.file none asks.file) some asks.junit asks.reported

-- the words of devices on the network
lacks_fleet : (rows : List Row) (fleet : AskedFleet) → LacksFleet rows → AsksForFleet (codes "fleet", rows) fleet → ⊥
lacks_fleet rows fleet (inl none) asks = search rules
lacks_fleet rows fleet (inr (inl none)) asks = none fleet.port asks.2
lacks_fleet rows fleet (inr (inr (inl none))) asks = search rules
lacks_fleet rows fleet (inr (inr (inr (inl lacks)))) asks = lacks_wire rows fleet.wire lacks asks.11
lacks_fleet rows fleet (inr (inr (inr (inr lacks)))) asks = lacks_verdict rows fleet.verdict lacks asks.13

-- they ask for no job
fleet_alone : (rows : List Row) (job : Job) → AsksFor (codes "fleet", rows) job → ⊥
fleet_alone rows (jobs.One hex form) asks = search rules
fleet_alone rows (jobs.Say hex server) asks = search rules
fleet_alone rows (jobs.Spell statement) asks = search rules
fleet_alone rows (jobs.Play file device from to form) asks = search rules
fleet_alone rows (jobs.Asm input output) asks = search rules
fleet_alone rows (jobs.Dis input) asks = search rules
fleet_alone rows (jobs.Run image workers batch trace) asks = search rules
fleet_alone rows (jobs.Check image trace json) asks = search rules
fleet_alone rows (jobs.Show image trace device from to form) asks = search rules
fleet_alone rows (jobs.Pcap image trace output) asks = search rules
fleet_alone rows (jobs.Debug image trace reasons) asks = search rules
fleet_alone rows (jobs.Titles files only) asks = search rules
fleet_alone rows (jobs.Test files only form junit) asks = search rules
fleet_alone rows (jobs.Expect files image device only form junit) asks = search rules
fleet_alone rows (jobs.Join output images) asks = search rules
fleet_alone rows (jobs.Lint file only except form) asks = search rules

pub not_fleet : (rows : List Row) (wanted : Asked) → LacksFleet rows → MayAskFor (codes "fleet", rows) wanted → ⊥
not_fleet rows (asked.Job job) lacks asks = fleet_alone rows job asks
not_fleet rows (asked.Log server) lacks asks = search rules
not_fleet rows (asked.Live live) lacks asks = search rules
not_fleet rows (asked.Fleet fleet) lacks asks = lacks_fleet rows fleet lacks asks
not_fleet rows (asked.Text text is_mistake) lacks asks = absurd asks

-- the words of `say`
lacks_hex : (rows : List Row) (job : Job) → LacksSay rows → AsksFor (codes "say", rows) job → ⊥
lacks_hex rows (jobs.One hex form) lacks asks = search rules
lacks_hex rows (jobs.Say hex server) (inl none) asks = search rules
lacks_hex rows (jobs.Say hex server) (inr none) asks = none server asks.3
lacks_hex rows (jobs.Spell statement) lacks asks = search rules
lacks_hex rows (jobs.Play file device from to form) lacks asks = search rules
lacks_hex rows (jobs.Asm input output) lacks asks = search rules
lacks_hex rows (jobs.Dis input) lacks asks = search rules
lacks_hex rows (jobs.Run image workers batch trace) lacks asks = search rules
lacks_hex rows (jobs.Check image trace json) lacks asks = search rules
lacks_hex rows (jobs.Show image trace device from to form) lacks asks = search rules
lacks_hex rows (jobs.Pcap image trace output) lacks asks = search rules
lacks_hex rows (jobs.Debug image trace reasons) lacks asks = search rules
lacks_hex rows (jobs.Titles files only) lacks asks = search rules
lacks_hex rows (jobs.Test files only form junit) lacks asks = search rules
lacks_hex rows (jobs.Expect files image device only form junit) lacks asks = search rules
lacks_hex rows (jobs.Join output images) lacks asks = search rules
lacks_hex rows (jobs.Lint file only except form) lacks asks = search rules

lacks_log : (rows : List Row) (server : ℕ) → LacksSay rows → AsksForLog (codes "say", rows) server → ⊥
lacks_log rows server (inl none) asks = search rules
lacks_log rows server (inr none) asks = none server asks.2

pub not_say : (rows : List Row) (wanted : Asked) → LacksSay rows → MayAskFor (codes "say", rows) wanted → ⊥
not_say rows (asked.Job job) lacks asks = lacks_hex rows job lacks asks
not_say rows (asked.Log server) lacks asks = lacks_log rows server lacks asks
not_say rows (asked.Live live) lacks asks = search rules
not_say rows (asked.Fleet fleet) lacks asks = search rules
not_say rows (asked.Text text is_mistake) lacks asks = absurd asks

-- other words ask for no devices on the network, and for no log
pub no_job : (name : Word) (rows : List Row) (wanted : Asked) → (name ≢ codes "live") → (name ≢ codes "fleet")
    → (name ≢ codes "say") → ((job : Job) → AsksFor (name, rows) job → ⊥) → MayAskFor (name, rows) wanted → ⊥
no_job name rows (asked.Job job) one two three none asks = none job asks
no_job name rows (asked.Log server) one two three none asks = absurd (three asks.0)
no_job name rows (asked.Live live) one two three none asks = absurd (one asks.0)
no_job name rows (asked.Fleet fleet) one two three none asks = absurd (two asks.0)
no_job name rows (asked.Text text is_mistake) one two three none asks = absurd asks

-- the second of two, where the first is not
pub second_of : {A B : Type 0} → A ⊎ B → (A → ⊥) → B
second_of (inl a) without = absurd (without a)
second_of (inr b) without = b

-- what is plain has no global argument
pub is_local : (groups external globals rest : Bool) → (groups && (not external && (not globals && rest))) ≡ true
    → globals ≡ false
is_local true false false rest plain = refl
is_local true false true rest plain = search rules
is_local true true globals rest plain = search rules
is_local false external globals rest plain = search rules

-- an error that is not a lack of memory is one of those that the words may have
pub refused_as : (app : App) (words : List Word) (e : Error) (is_mistake : Bool) → app ≡ bench_app
    → (is_simple_and_free app ≡ true → HasKind (fault_of app words) e) → (kind_of e ≢ kind.OutOfMemory)
    → (IsTrue is_mistake ↔ ((kind_of e ≢ kind.DisplayHelp) × (kind_of e ≢ kind.DisplayVersion)))
    → IsRefusedAs (refusals words) is_mistake
unfolding refusals
refused_as app words e is_mistake same kinds other mistake =
    let simple : is_simple_and_free app ≡ true = ap is_simple_and_free same in
    let among : IsAmong (kind_of e) (fault_of bench_app words) =
    subst (λ a. IsAmong (kind_of e) (fault_of a words)) same (second_of (kinds simple) other) in
    (kind_of e, among, mistake)

-- words that were taken have no error
pub taken_whole : (app : App) (words : List Word) → app ≡ bench_app
    → (is_simple_and_free app ≡ true → fault_of app words ≡ []) → refusals words ≡ []
unfolding refusals
taken_whole app words same kinds =
    let simple : is_simple_and_free app ≡ true = ap is_simple_and_free same in
    subst (λ a. fault_of a words ≡ []) same (kinds simple)

-- the subcommand that was found is that of the words
same_subcommand : (app : App) (words : List Word) (m : ArgMatches) → app ≡ bench_app → HasMatchesOf app words m
    → subcommand_rows_of m ≡ subcommand_of bench_app words
same_subcommand app words m same matches =
    let simple : is_simple app ≡ true = ap is_simple same in
    subst (λ a. subcommand_rows_of m ≡ subcommand_of a words) same (matches simple).1

-- what the subcommand that was found asks for
pub taken_for : (found : Option (Word × List Row)) (wanted : Asked)
    → (p : Word × List Row) × (found ≡ Some p) × MayAskFor p wanted → IsTakenAs found wanted
taken_for found (asked.Job job) asks = asks
taken_for found (asked.Log server) asks = asks
taken_for found (asked.Live live) asks = asks
taken_for found (asked.Fleet fleet) asks = asks
taken_for found (asked.Text text is_mistake) (p, at, asks) = absurd asks

-- what words that were taken ask for
pub read_as : (app : App) (words : List Word) (m : ArgMatches) (wanted : Asked) → app ≡ bench_app
    → HasMatchesOf app words m → (is_simple_and_free app ≡ true → fault_of app words ≡ [])
    → IsTakenAs (subcommand_rows_of m) wanted → IsReadAs words wanted
read_as app words m (asked.Job job) same matches kinds (p, at, asks) = (
  taken_whole app words same kinds,
  record { found = p; entered = sym (same_subcommand app words m same matches) ∙ at; asks = asks },
)
read_as app words m (asked.Log server) same matches kinds (p, at, asks) = (
  taken_whole app words same kinds,
  record { found = p; entered = sym (same_subcommand app words m same matches) ∙ at; asks = asks },
)
read_as app words m (asked.Live live) same matches kinds (p, at, asks) = (
  taken_whole app words same kinds,
  record { found = p; entered = sym (same_subcommand app words m same matches) ∙ at; asks = asks },
)
read_as app words m (asked.Fleet fleet) same matches kinds (p, at, asks) = (
  taken_whole app words same kinds,
  record { found = p; entered = sym (same_subcommand app words m same matches) ∙ at; asks = asks },
)
read_as app words m (asked.Text text is_mistake) same matches kinds (mistake, none) =
    inr (
      taken_whole app words same kinds,
      mistake,
      λ wanted is. none is.found wanted (same_subcommand app words m same matches ∙ is.entered) is.asks,
    )
