-- What a value shows is what the rules say after the calls that it stands for, in reliable broadcast by digests.
use Rattle.std.specs.Prelude.{◌≡◌, ℕ, List, Option, Some, None, refl}
use Rattle.std.proofs.Common.{sym, ◌∙◌, ap}
use Rattle.ritas_base.specs.History.{Call}
use Rattle.ritas_base.specs.Messages.{Place}
use Rattle.ritas_base.specs.Tags.{Tags}
use Rattle.layer_api.specs.BroadcastCalls.{ShowsCast}
use Rattle.reliable_bcast.specs.declared.digest_rb.DigestRb.{DigestRb}
use Rattle.reliable_bcast.specs.Bracha.{out_by_value as carried_of}
use Rattle.reliable_bcast.specs.Digests.{known_of, out_by_digest, by_digest}
use Rattle.reliable_bcast.specs.Laws.ByDigest.{out_by}
use Rattle.reliable_bcast.specs.DigestState.{value_for_full, delivered_of, digest_shown, KeepsDigests}

full_value : (b : DigestRb) (at : Place) (tags : Tags) (h : List Call) → KeepsDigests b at tags h → (o : Option (List ℕ)) → value_for_full b.values.items o ≡ known_of at tags h o
full_value b at tags h keeps None = refl
full_value b at tags h keeps (Some d) = keeps.values d

pub shows_out : (b : DigestRb) (at : Place) (tags : Tags) (h : List Call) → KeepsDigests b at tags h → delivered_of b ≡ out_by_digest at tags h
shows_out b at tags h keeps =
    ap (λ (o : Option (List ℕ)). value_for_full b.values.items o) keeps.full
    ∙ (full_value b at tags h keeps (carried_of at h) ∙ sym (out_by at tags h))

pub shows_cast : (b : DigestRb) (at : Place) (tags : Tags) (h : List Call) → KeepsDigests b at tags h → ShowsCast by_digest at tags h (digest_shown b)
shows_cast b at tags h keeps = record { out = shows_out b at tags h keeps; ready = λ i. refl }
