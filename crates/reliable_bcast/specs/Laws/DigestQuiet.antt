-- What a call that changes nothing of a kind makes newly due with it, in reliable broadcast by digests: nothing. So a start makes INIT
-- due, and no more.
use Rattle.std.specs.Prelude.{◌≡◌, ℕ, ◌==◌, Bool, true, false, List, [], ◌∷◌, Option, Some, None, is_some, is_none, if◌then◌else◌, refl}
use Rattle.std.proofs.Common.{◌∙◌, ap}
use Rattle.std.specs.Option.{option_or}
use Rattle.ritas_base.specs.declared.item.Kind.TheVariants.{Init, Echo, Ready, Want}
use Rattle.ritas_base.specs.Shortest.{option_or_none}
use Rattle.ritas_base.specs.History.{Call, Start, told, first, started, replicas}
use Rattle.ritas_base.specs.Messages.{Place, to_all}
use Rattle.ritas_base.specs.MessagesLaws.{gained, gained_none}
use Rattle.ritas_base.specs.Tags.{Tags}
use Rattle.layer_api.specs.Broadcast.{news}
use Rattle.reliable_bcast.specs.Bracha.{some_carried, ready_value, out_by_value as carried_of}
use Rattle.reliable_bcast.specs.Laws.Steps.{ready_quiet, out_quiet}
use Rattle.reliable_bcast.specs.Digests.{brought_by, if_digest, known, Full, full_if, full_of, digest_in, asked_for, known_of, value_for, by_digest, echo_of}
use Rattle.reliable_bcast.specs.Laws.DigestOneValue.{full_is}
use Rattle.reliable_bcast.specs.Laws.DigestNews.{gain, gain_for, news_is, gained_or, gained_itself, gained_echo, no_ones, same_parts}

-- ---- what is known

-- a call that brings nothing
pub known_same : (at : Place) (tags : Tags) (h : List Call) (c : Call) → brought_by at h c ≡ None → (d : List ℕ) → known at tags (c ∷ h) d ≡ known at tags h d
known_same at tags h c none d = ap (λ (o : Option (List ℕ)). option_or (known at tags h d) (if_digest tags d o)) none ∙ option_or_none (known at tags h d)

-- ---- what is carried and asked for

-- what is asked for newly: what is carried now, was not before, and isn't known
abbrev pub newly_wanted : Place → Tags → List Call → Bool → Option (List ℕ) → Option (List ℕ)
newly_wanted at tags h false o = None
newly_wanted at tags h true None = None
newly_wanted at tags h true (Some d) = if is_some (known at tags h d) then None else Some d

pub want_gain : (at : Place) (tags : Tags) (h : List Call) (c : Call) → gain at tags h c Want ≡ newly_wanted at tags (c ∷ h) (is_none (carried_of at h)) (carried_of at (c ∷ h))
want_gain at tags h c = go (full_of at tags h) (some_carried at.numbers (c ∷ h)) (carried_of at h) (full_is at tags h)
  where
    asked : (o : Option (List ℕ)) → asked_for (full_if at tags (c ∷ h) o) ≡ newly_wanted at tags (c ∷ h) true o
    asked None = refl
    asked (Some d) = refl

    go : (f : Option Full) (now was : Option (List ℕ)) → digest_in f ≡ was
        → gained (asked_for f) (asked_for (option_or f (full_if at tags (c ∷ h) now))) ≡ newly_wanted at tags (c ∷ h) (is_none was) (option_or was now)
    go None now None same = asked now
    go None now (Some d) same = absurd (cc)
    go (Some full) now None same = absurd (cc)
    go (Some full) now (Some d) same = gained_itself (asked_for (Some full))

-- where nothing more is carried, nothing is asked for
pub no_want : (at : Place) (tags : Tags) (h : List Call) (c : Call) → carried_of at (c ∷ h) ≡ carried_of at h → gain at tags h c Want ≡ None
no_want at tags h c same = want_gain at tags h c ∙ (ap (newly_wanted at tags (c ∷ h) (is_none (carried_of at h))) same ∙ go (carried_of at h))
  where
    go : (o : Option (List ℕ)) → newly_wanted at tags (c ∷ h) (is_none o) o ≡ None
    go None = refl
    go (Some d) = refl

-- ---- answers

-- where neither what is known nor who asks changes, nobody is answered
pub no_gain : (at : Place) (tags : Tags) (h : List Call) (c : Call) (k : ℕ) → ((d : List ℕ) → known at tags (c ∷ h) d ≡ known at tags h d) → told k Want c ≡ None
    → gain_for at tags h c k ≡ None
no_gain at tags h c k same quiet =
    ap (λ (o : Option (List ℕ)). gained (value_for at tags h k) o) (value_same at tags h c k same quiet) ∙ gained_itself (value_for at tags h k)
  where
    known_of_same : (at : Place) (tags : Tags) (h : List Call) (c : Call) (o : Option (List ℕ)) → ((d : List ℕ) → known at tags (c ∷ h) d ≡ known at tags h d) → known_of at tags (c ∷ h) o ≡ known_of at tags h o
    known_of_same at tags h c None same = refl
    known_of_same at tags h c (Some d) same = same d

    value_same : (at : Place) (tags : Tags) (h : List Call) (c : Call) (k : ℕ) → ((d : List ℕ) → known at tags (c ∷ h) d ≡ known at tags h d) → told k Want c ≡ None
        → value_for at tags (c ∷ h) k ≡ value_for at tags h k
    value_same at tags h c k same quiet =
        ap (λ (o : Option (List ℕ)). if k == at.me then None else o)
        (ap (λ (o : Option (List ℕ)). known_of at tags (c ∷ h) (option_or (first h k Want) o)) quiet
        ∙ (ap (known_of at tags (c ∷ h)) (option_or_none (first h k Want)) ∙ known_of_same at tags h c (first h k Want) same))

-- ---- ECHO and READY

pub no_echo : (at : Place) (tags : Tags) (h : List Call) (c : Call) → told at.slot.origin Init c ≡ None → gain at tags h c Echo ≡ None
no_echo at tags h c quiet =
    gained_echo tags.digest (first h at.slot.origin Init) (told at.slot.origin Init c)
    ∙ (ap (λ (o : Option (List ℕ)). gained (echo_of tags.digest (first h at.slot.origin Init)) (echo_of tags.digest o)) quiet ∙ gained_none (echo_of tags.digest (first h at.slot.origin Init)))

pub no_ready : (at : Place) (tags : Tags) (h : List Call) (c : Call) → ready_value at.numbers (c ∷ h) ≡ ready_value at.numbers h → gain at tags h c Ready ≡ None
no_ready at tags h c same = ap (gained (ready_value at.numbers h)) same ∙ gained_itself (ready_value at.numbers h)

-- ---- the start

-- the first start makes INIT due
pub start_news : (at : Place) (tags : Tags) (h : List Call) (m : List ℕ) → started h ≡ None → news by_digest at tags h (Start m) ≡ to_all at.slot Init (Some m)
start_news at tags h m none =
    let p = at.numbers in
    news_is at tags h (Start m)
    ∙ same_parts at.slot _ (Some m) _ None _ None _ None _ []
    (gained_or (started h) (Some m) ∙ ap (λ (o : Option (List ℕ)). gained o (Some m)) none) (no_echo at tags h (Start m) refl)
    (no_ready at tags h (Start m) (ready_quiet p h (Start m) (λ j. refl) (λ j. refl)))
    (no_want at tags h (Start m) (out_quiet at h (Start m) (λ j. refl)))
    (no_ones at.slot (gain_for at tags h (Start m)) (replicas p.n) (λ k. no_gain at tags h (Start m) k (known_same at tags h (Start m) refl) refl))
