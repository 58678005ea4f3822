-- The command that the words are read by: two subcommands with one required value each, and five without any.
use Rattle.std.specs.Prelude.{Some, true, codes}
use Rattle.clap.specs.Words.{App, Rule, Shape, Text, new_app, new_rule, with_rule, with_subcommand}
use Rattle.clap.specs.declared.builder.action.ArgAction.TheVariants.{Set}

-- the required value
abbrev pub value_rule : Rule
value_rule = record (new_rule (codes "what")) { required = true; action = Some Set }

-- a subcommand with the required value, and one that takes nothing
abbrev pub with_value : Text → Shape
with_value name = (with_rule (new_app name) value_rule).top

abbrev pub alone : Text → Shape
alone name = (new_app name).top

-- the program's own name, which must have a subcommand, and has no help
abbrev pub base : App
base = record (new_app (codes "ritas")) {
  top = record (new_app (codes "ritas")).top {
    disable_help_flag = true;
    disable_help_subcommand = true;
    subcommand_required = true;
  };
}

abbrev pub valued_word : App
valued_word = with_subcommand (with_subcommand base (with_value (codes "replay"))) (with_value (codes "drive"))

abbrev pub ritas : App
ritas =
    let with_keys = with_subcommand valued_word (alone (codes "keys")) in
    let with_node = with_subcommand with_keys (alone (codes "node")) in
    let with_cluster = with_subcommand with_node (alone (codes "cluster")) in
    let with_submit = with_subcommand with_cluster (alone (codes "submit")) in
    with_subcommand with_submit (alone (codes "watch"))
