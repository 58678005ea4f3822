use Rattle.std.proofs.Common.{ℕ, List, [], ◌++◌, ◌∙◌, ap, ap₂}
use Rattle.std.proofs.lemmas.List.{append-nil}
use Rattle.keyed_channel.proofs.note.tagged_note.Goals as goal

pub returns : goal.returns
returns c =
    ap₂ (λ (x y : List ℕ). x ++ (y ++ [])) c.copy_from_slice-2.ensures.after c.copy_from_slice.ensures.after
    ∙ ap (λ (l : List ℕ). c.args.front.now ++ l) (append-nil c.args.tag.now)
