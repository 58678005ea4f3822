use Rattle.std.proofs.Common.{◌≡◌, ◌<◌, ◌+◌, ◌∙◌, ◌↔◌, Err, [], ap, sym, subst, length, List, ℕ, Option, get_or}
use Rattle.std.proofs.lemmas.List.{get_or_default}
use Rattle.link_resume.specs.declared.kept.Kept.{Kept}
use Rattle.link_resume.specs.declared.kept.KeepFault.TheVariants.{QueueFull}
use Rattle.link_resume.specs.Lists.{Keepings, kept_for, bytes_in, IsOver}
use Rattle.link_resume.proofs.resume.Resume.keep.Goals as goal

pub returns-clause-full : goal.returns-clause-full
returns-clause-full c = λ b.
    let lists : List (List Kept) = c.self.inside.lanes.items in
    let peer : ℕ = c.args.peer in
    let here : peer < length lists = subst (λ (k : Keepings). peer < length k.lists) (sym c.self.view_is) c.requires in
    let same : c.index_mut.result.now ≡ kept_for c.args.self.now.lists peer =
    c.index_mut.ensures.value ∙ (get_or_default lists peer c.index_mut.result.now [] here ∙ ap (λ (k : Keepings). get_or k.lists peer []) c.self.view_is) in
    subst (λ (limit : Option ℕ). (c.add.result ≡ Err (QueueFull b)) ↔ ((b ≡ bytes_in (kept_for c.args.self.now.lists peer)) × IsOver limit (b + length c.args.frame.now)))
    (ap (λ (k : Keepings). k.limit) c.self.view_is)
    (subst (λ (l : List Kept). (c.add.result ≡ Err (QueueFull b)) ↔ ((b ≡ bytes_in l) × IsOver c.self.inside.limit (b + length c.args.frame.now))) same (c.add.ensures.full b))
