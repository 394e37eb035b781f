-- What `clap` is told of the words behind the name of a command: the positional words, and all options.
use Rattle.std.specs.Prelude.{ℕ, Bool, true, List, Some, codes}
use Rattle.ug_types.specs.Bytes.{same_bytes}
use Rattle.clap.specs.Walk.{Rule}
use Rattle.clap.specs.Simple.{App, new_app, new_rule, on_top, with_rule}
use Rattle.clap.specs.declared.builder.action.ArgAction.TheVariants.{SetTrue}

-- nothing yet, and no request for help
abbrev pub bare : App
bare = on_top (λ s. record s { disable_help_flag = true }) (new_app (codes "woodballash"))

abbrev pub workers_rule : Rule
workers_rule = record (new_rule (codes "workers")) { long = Some (codes "workers") }

-- an option without a value
abbrev pub flag_rule : List ℕ → Rule
flag_rule name = record (new_rule name) { long = Some name; action = Some SetTrue }

abbrev pub with_positionals : App → App
with_positionals a =
    with_rule (with_rule (with_rule (with_rule a (new_rule (codes "first"))) (new_rule (codes "second"))) (new_rule (codes "third"))) (new_rule (codes "fourth"))

abbrev pub with_options : App → App
with_options a =
    with_rule (with_rule (with_rule (with_rule a workers_rule) (flag_rule (codes "add-path"))) (flag_rule (codes "extended"))) (flag_rule (codes "ipv6"))

abbrev pub grammar : App
grammar = with_options (with_positionals bare)

-- the value of `--workers`
abbrev pub is_one : List ℕ → Bool
is_one word = same_bytes word (codes "1")
