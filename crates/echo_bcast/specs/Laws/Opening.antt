-- Whether an item can be taken yet goes by its kind alone.
use Rattle.std.specs.Prelude.{not, ◌||◌, is_some}
use Rattle.std.proofs.Common.{ap}
use Rattle.ritas_base.specs.declared.item.Kind.{Kind}
use Rattle.ritas_base.specs.declared.item.Kind.TheVariants.{Column}
use Rattle.ritas_base.specs.Messages.{kind_eq}
use Rattle.layer_api.specs.Entries.{sent}
use Rattle.layer_api.specs.OpeningLaws.{ReadyByKind}
use Rattle.echo_bcast.specs.Matrix.{echo}

pub ready_by_kind_of_echo : ReadyByKind echo
ready_by_kind_of_echo at tags h x y same = ap (λ (k : Kind). not (kind_eq k Column) || is_some (sent at h)) same
