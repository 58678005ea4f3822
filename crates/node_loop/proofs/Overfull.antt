-- Whether too many bytes are kept for the peers of a replica, and which is the least such replica.
use Rattle.std.proofs.Common.{◌≡◌, ℕ, suc, ◌+◌, ◌<◌, Bool, true, false, not, ◌&&◌, nat_le, List, [], ◌∷◌, length, Option, Some, None, refl, sym, ◌∙◌, ap, ap₂, subst, arith, slice_index_or, sum_by, if◌then◌else◌}
use Rattle.std.specs.List.{slice_get, range_with_len}
use Rattle.std.specs.Option.{MatchOption, is_some}
use Rattle.std.proofs.lemmas.List.Sums.{sum_by-cons}
use Rattle.std.proofs.lemmas.Option.{slice_get-get_or}
use Rattle.ritas_base.specs.declared.event.Event.{Event}
use Rattle.ritas_base.specs.declared.mode.FrameVersion.{FrameVersion}
use Rattle.ritas_base.specs.History.{replicas}
use Rattle.keyed_channel.specs.KeyRow.{KeyRow}
use Rattle.link_resume.specs.Lists.{bytes_in, may_have}
use Rattle.ritas_core.specs.Machine.{CoreState}
use Rattle.ritas_core.specs.Stands.{Meaning}
use Rattle.replica.specs.declared.replica.Replica.{Replica}
use Rattle.world_model.specs.World.{Setting}
use Rattle.world_model.specs.Stands.{IsReplica}
use Rattle.node_loop.specs.declared.peers.Keeper.{Keeper}
use Rattle.node_loop.specs.Peers.{Peers}
use Rattle.node_loop.specs.PeersStanding.{IsKeeper}
use Rattle.node_loop.specs.Served.{AreHere}
use Rattle.node_loop.specs.Serving.{most_kept_in_all, kept_bytes, is_overfull, overfull}
use Rattle.node_loop.specs.Standing.{is_before_other}
use Rattle.node_loop.proofs.Busy.{Least, least_more}
use Rattle.node_loop.proofs.Seating.{number_read}

-- ---- how many bytes are kept

-- a sum over a list is one over its places
sum_places : {X : Type 0} (f : X → ℕ) (d : X) (g : ℕ → ℕ) (a : ℕ) (xs : List X) → ((j k : ℕ) → j < length xs → k ≡ a + j → f (slice_index_or xs j d) ≡ g k)
    → sum_by f xs ≡ sum_by g (range_with_len a (length xs))
sum_places f d g a [] same = refl
sum_places f d g a (x ∷ xs) same =
    let rest = sum_places f d g (a + 1) xs (λ j k below is. same (suc j) k (omega arith) (omega arith)) in
    let first : f x ≡ g a = same 0 a (omega arith) (omega arith) in
    sum_by-cons f x xs ∙ (ap₂ (λ (m n : ℕ). m + n) first rest ∙ sym (sum_by-cons g a (range_with_len (a + 1) (length xs))))

-- what is kept for each peer, in all
pub kept_sum : (w : Setting) (i bytes : ℕ) (p : Peers) (keeper : Keeper) → IsKeeper w.mode.version w.numbers.n i keeper p → bytes ≡ sum_by bytes_in keeper.resume.lists
    → bytes ≡ kept_bytes w p i
kept_sum w i bytes p keeper is all =
    let many = is.kept.many in
    let g : ℕ → ℕ = λ j. bytes_in (p.keeping i j) in
    let sum = sum_places bytes_in [] g 0 keeper.resume.lists (λ j k below same.
    let one : j ≡ k = omega (arith, same) in
    ap bytes_in (is.kept.each j (omega (arith, below, many))) ∙ ap g one) in
    all ∙ (sum ∙ ap (λ (n : ℕ). sum_by g (replicas n)) many)

-- so many bytes, where they are more than a most, if there is one
abbrev over : Option ℕ → ℕ → Option ℕ
over most bytes = if not (may_have most bytes) then Some bytes else None

-- whether they are too many, of a keeper
over_is : (w : Setting) (i : ℕ) (p : Peers) (keeper : Keeper) (most : Option ℕ) (bytes : ℕ) → IsKeeper w.mode.version w.numbers.n i keeper p
    → most ≡ most_kept_in_all keeper.version → bytes ≡ sum_by bytes_in keeper.resume.lists → over most bytes ≡ (if is_overfull w p i then Some (kept_bytes w p i) else None)
over_is w i p keeper most bytes is limit all =
    ap₂ over (limit ∙ ap (λ (v : FrameVersion). most_kept_in_all v) is.version_is) (kept_sum w i bytes p keeper is all)

-- where there is a limit they are compared with it
pub over_by : (w : Setting) (i : ℕ) (p : Peers) (keeper : Keeper) (most bytes : ℕ) (within : Bool) → IsKeeper w.mode.version w.numbers.n i keeper p
    → Some most ≡ most_kept_in_all keeper.version → bytes ≡ sum_by bytes_in keeper.resume.lists → nat_le bytes most ≡ within
    → (if not within then Some bytes else None) ≡ (if is_overfull w p i then Some (kept_bytes w p i) else None)
over_by w i p keeper most bytes within is limited all compared =
    ap (λ (b : Bool). if not b then Some bytes else None) (sym compared) ∙ over_is w i p keeper (Some most) bytes is limited all

-- ---- the least replica for whose peers too many are kept

is_some_of : (b : Bool) (bytes : ℕ) → is_some (if b then Some bytes else None) ≡ b
is_some_of true bytes = refl
is_some_of false bytes = refl

pub lesser_over : (number bytes : ℕ) (o least : Option ℕ) (too_many some less : Bool) → o ≡ (if too_many then Some bytes else None) → some ≡ is_some o → less ≡ is_before_other number least
    → (if some && less then Some number else least) ≡ (if too_many && is_before_other number least then Some number else least)
lesser_over number bytes o least too_many some less is some_is less_is =
    ap₂ (λ (a b : Bool). if a && b then Some number else least) (some_is ∙ (ap is_some is ∙ is_some_of too_many bytes)) less_is

pub least_over_next : {S E C : Type 0} (m : Meaning S E C KeyRow) (w : Setting) (es : List Event) (numbers : List ℕ) (reps xs : List (Replica S E C)) (k : ℕ) (rep : Replica S E C) (p : Peers)
    (number : ℕ) (least result : Option ℕ)
    → AreHere m w es numbers reps → xs ≡ reps → k < length xs → rep ≡ slice_index_or xs k rep
    → ((v : Setting) (states : ℕ → CoreState) (i : ℕ) → IsReplica m v states i rep → number ≡ (v.keys i).me)
    → ((at : ℕ) → slice_get numbers k ≡ Some at → result ≡ (if is_overfull w p at && is_before_other number least then Some number else least))
    → Least (is_overfull w p) numbers k least → Least (is_overfull w p) numbers (k + 1) result
least_over_next m w es numbers reps xs k rep p number least result stand same within is has did so_far =
    let x = slice_index_or numbers k 0 in
    let mine : number ≡ x = number_read m w es numbers reps xs k rep number stand same within is has in
    let many = stand.many in
    let long = ap length same in
    let placed : slice_get numbers k ≡ Some x = slice_get-get_or numbers k 0 (omega arith) in
    let Q : Option ℕ → Type 0 = λ o. Least (is_overfull w p) numbers (k + 1) o in
    subst Q (sym (did x placed ∙ ap (λ (j : ℕ). if is_overfull w p x && is_before_other j least then Some j else least) mine))
    (least_more (is_overfull w p) numbers k least so_far)

-- and how many are kept for its peers
pub overflow_is : (w : Setting) (p : Peers) (at : ℕ) (more : List ℕ) (result : Option ℕ) → is_overfull w p at ≡ true → overfull w p ≡ at ∷ more
    → result ≡ (if is_overfull w p at then Some (kept_bytes w p at) else None)
    → MatchOption result (overfull w p ≡ []) (λ bytes. (i : ℕ) × (more : List ℕ) × (overfull w p ≡ i ∷ more) × (bytes ≡ kept_bytes w p i))
overflow_is w p at more result too_many first is =
    let P : Option ℕ → Type 0 = λ o. MatchOption o (overfull w p ≡ []) (λ bytes. (i : ℕ) × (rest : List ℕ) × (overfull w p ≡ i ∷ rest) × (bytes ≡ kept_bytes w p i)) in
    subst P (sym (is ∙ ap (λ (b : Bool). if b then Some (kept_bytes w p at) else None) too_many)) (at, more, first, refl)
