-- What contracts see of the options of a message.
use Rattle.std.specs.Prelude.{List, [], ◌∷◌}
use Rattle.coap_codec.specs.declared.option.Opt.{Opt}
use Rattle.coap_codec.specs.declared.option.Items.{Items}
use Rattle.coap_codec.specs.declared.option.Items.TheVariants.{One, Listed}

abbrev pub items_of : Items → List Opt
items_of (One option) = option ∷ []
items_of (Listed options) = options.items
