-- The closed part of rows, those that are fresh, and what a chain gets of a log.
use Rattle.std.specs.Prelude.{◌≡◌, Bool, true, false, if◌then◌else◌, List, [], ◌∷◌, ◌++◌, refl}
use Rattle.std.proofs.Common.{sym, ◌∙◌, ap, subst, inl, inr}
use Rattle.std.proofs.lemmas.Bool.{or_right}
use Rattle.layer_api.specs.Service.{IsPart}
use Rattle.command_log.specs.Rows.{Row, has_row, AreOnce, HasRow, closes, is_closed}
use Rattle.command_log.specs.Fresh.{with_fresh, fresh, closed_part}
use Rattle.command_log.specs.Laws.{part_before}
use Rattle.command_log.specs.ChainLaws.{by_fresh}
use Rattle.epoch_chain.specs.Chain.{chain_after}
use Rattle.epoch_chain.specs.Epochs.{OneIsPart}
use Rattle.epoch_chain.proofs.Parts.{part_itself, part_of_part, has_in_part}

-- ---- the closed part

pub closed_more : (more rs : List Row) → is_closed rs ≡ true → is_closed (more ++ rs) ≡ true
closed_more [] rs closed = closed
closed_more (m ∷ more) rs closed = or_right (closes m) (is_closed (more ++ rs)) (closed_more more rs closed)

-- a log that is closed has its closed part, whatever comes behind it
closed_stays : (more rs : List Row) → is_closed rs ≡ true → closed_part (more ++ rs) ≡ closed_part rs
closed_stays [] rs closed = refl
closed_stays (m ∷ more) rs closed =
    ap (λ (b : Bool). if b then closed_part (more ++ rs) else m ∷ (more ++ rs)) (closed_more more rs closed) ∙ closed_stays more rs closed

-- it is a part of the log
pub closed_in_log : (rs : List Row) → IsPart (closed_part rs) rs
closed_in_log [] = ([], refl)
closed_in_log (r ∷ rs) = go (closed_in_log rs) (is_closed rs)
  where
    go : IsPart (closed_part rs) rs → (b : Bool) → IsPart (if b then closed_part rs else r ∷ rs) (r ∷ rs)
    go before true = part_of_part (closed_part rs) rs (r ∷ rs) before (r ∷ [], refl)
    go before false = part_itself (r ∷ rs)

-- a log that grows has a closed part that grows
closed_grows : (more rs : List Row) → IsPart (closed_part rs) (closed_part (more ++ rs))
closed_grows [] rs = part_itself (closed_part rs)
closed_grows (m ∷ more) rs = go (closed_grows more rs) (is_closed (more ++ rs))
  where
    go : IsPart (closed_part rs) (closed_part (more ++ rs)) → (b : Bool) → IsPart (closed_part rs) (if b then closed_part (more ++ rs) else m ∷ (more ++ rs))
    go before true = before
    go before false = part_of_part (closed_part rs) rs (m ∷ (more ++ rs)) (closed_in_log rs) (m ∷ more, refl)

closed_of_part : (xs ys : List Row) → IsPart xs ys → IsPart (closed_part xs) (closed_part ys)
closed_of_part xs ys part = subst (λ (l : List Row). IsPart (closed_part xs) (closed_part l)) part.1 (closed_grows part.0 xs)

pub closed_equal : (xs ys : List Row) → IsPart xs ys → is_closed xs ≡ true → closed_part ys ≡ closed_part xs
closed_equal xs ys part closed = ap closed_part (sym part.1) ∙ closed_stays part.0 xs closed

-- of two logs of one list: where the second is closed, the first's closed part is a part of it
closed_of_one : (xs ys : List Row) → OneIsPart xs ys → is_closed ys ≡ true → IsPart (closed_part xs) (closed_part ys)
closed_of_one xs ys (inl part) closed = closed_of_part xs ys part
closed_of_one xs ys (inr part) closed = ([], closed_equal ys xs part closed)

-- where both are closed, they have one
closed_of_both : (xs ys : List Row) → OneIsPart xs ys → is_closed xs ≡ true → is_closed ys ≡ true → closed_part xs ≡ closed_part ys
closed_of_both xs ys (inl part) first second = sym (closed_equal xs ys part first)
closed_of_both xs ys (inr part) first second = closed_equal ys xs part second

pub closed_again : (rs : List Row) → closed_part (closed_part rs) ≡ closed_part rs
closed_again [] = refl
closed_again (r ∷ rs) = go (closed_again rs) (is_closed rs) refl
  where
    go : closed_part (closed_part rs) ≡ closed_part rs → (b : Bool) → is_closed rs ≡ b
        → closed_part (if b then closed_part rs else r ∷ rs) ≡ (if b then closed_part rs else r ∷ rs)
    go before true closed = before
    go before false none = ap (λ (b : Bool). if b then closed_part rs else r ∷ rs) none

-- ---- fresh rows

fresh_grows : (chain more rs : List Row) → IsPart (fresh chain rs) (fresh chain (more ++ rs))
fresh_grows chain [] rs = part_itself (fresh chain rs)
fresh_grows chain (m ∷ more) rs =
    let h = fresh_grows chain more rs in
    by_fresh (λ (q : List Row). IsPart (fresh chain rs) q) chain (fresh chain (more ++ rs)) m (λ has. h) (λ none. (m ∷ h.0, ap (λ (l : List Row). m ∷ l) h.1))

fresh_of_part : (chain xs ys : List Row) → IsPart xs ys → IsPart (fresh chain xs) (fresh chain ys)
fresh_of_part chain xs ys part = subst (λ (l : List Row). IsPart (fresh chain xs) (fresh chain l)) part.1 (fresh_grows chain part.0 xs)

-- each client and request stays there once
fresh_once : (chain rs : List Row) → AreOnce chain → AreOnce (fresh chain rs ++ chain)
fresh_once chain [] once = once
fresh_once chain (r ∷ rs) once =
    let h = fresh_once chain rs once in
    by_fresh (λ (q : List Row). AreOnce (q ++ chain)) chain (fresh chain rs) r (λ has. h) (λ none. (none, h))

-- they are rows of the list
fresh_in : (chain rs : List Row) (r : Row) → HasRow (fresh chain rs) r → HasRow rs r
fresh_in chain [] r here = here
fresh_in chain (q ∷ rs) r here =
    by_fresh (λ (l : List Row). HasRow l r → HasRow (q ∷ rs) r) chain (fresh chain rs) q (λ has there. inr (fresh_in chain rs r there))
    (λ none now. elim now [ inl same ↦ inl same | inr there ↦ inr (fresh_in chain rs r there) ]) here

-- and are fresh once for all
fresh_again : (chain rs : List Row) → fresh chain (fresh chain rs) ≡ fresh chain rs
fresh_again chain [] = refl
fresh_again chain (r ∷ rs) =
    let h = fresh_again chain rs in
    by_fresh (λ (q : List Row). fresh chain q ≡ q) chain (fresh chain rs) r (λ has. h)
    (λ none. ap (λ (q : List Row). with_fresh chain q r) h ∙ ap (λ (b : Bool). if b then fresh chain rs else r ∷ fresh chain rs) none)

-- ---- what a chain gets of a log

-- of what it got it gets all once more
gained_fresh : (chain rs : List Row) → fresh chain (closed_part (fresh chain rs)) ≡ closed_part (fresh chain rs)
gained_fresh chain [] = refl
gained_fresh chain (r ∷ rs) =
    by_fresh (λ (q : List Row). fresh chain (closed_part q) ≡ closed_part q) chain (fresh chain rs) r (λ has. gained_fresh chain rs)
    (λ none. go none (gained_fresh chain rs) (is_closed (fresh chain rs)))
  where
    go : has_row (fresh chain rs ++ chain) r.client r.request ≡ false → fresh chain (closed_part (fresh chain rs)) ≡ closed_part (fresh chain rs) → (b : Bool)
        → fresh chain (if b then closed_part (fresh chain rs) else r ∷ fresh chain rs) ≡ (if b then closed_part (fresh chain rs) else r ∷ fresh chain rs)
    go none before true = before
    go none before false =
        ap (λ (q : List Row). with_fresh chain q r) (fresh_again chain rs) ∙ ap (λ (b : Bool). if b then fresh chain rs else r ∷ fresh chain rs) none

gained_again : (chain rs : List Row) → closed_part (fresh chain (closed_part (fresh chain rs))) ≡ closed_part (fresh chain rs)
gained_again chain rs = ap closed_part (gained_fresh chain rs) ∙ closed_again (fresh chain rs)

-- it gets no row that isn't in the log
pub gained_in : (chain rs : List Row) (r : Row) → HasRow (closed_part (fresh chain rs)) r → HasRow rs r
gained_in chain rs r here = fresh_in chain rs r (has_in_part (closed_part (fresh chain rs)) (fresh chain rs) (closed_in_log (fresh chain rs)) r here)

-- of two logs of one list: what it gets of the first is a part of what it gets of the second, where the second closes
fresh_of_one : (chain xs ys : List Row) → OneIsPart xs ys → OneIsPart (fresh chain xs) (fresh chain ys)
fresh_of_one chain xs ys (inl part) = inl (fresh_of_part chain xs ys part)
fresh_of_one chain xs ys (inr part) = inr (fresh_of_part chain ys xs part)

pub gained_of_part : (chain xs ys : List Row) → IsPart xs ys → IsPart (closed_part (fresh chain xs)) (closed_part (fresh chain ys))
gained_of_part chain xs ys part = closed_of_part (fresh chain xs) (fresh chain ys) (fresh_of_part chain xs ys part)

pub gained_of_one : (chain xs ys : List Row) → OneIsPart xs ys → is_closed (fresh chain ys) ≡ true → IsPart (closed_part (fresh chain xs)) (closed_part (fresh chain ys))
gained_of_one chain xs ys one closed = closed_of_one (fresh chain xs) (fresh chain ys) (fresh_of_one chain xs ys one) closed

-- and where both close, it gets the same
pub gained_of_both : (chain xs ys : List Row) → OneIsPart xs ys → is_closed (fresh chain xs) ≡ true → is_closed (fresh chain ys) ≡ true
    → closed_part (fresh chain xs) ≡ closed_part (fresh chain ys)
gained_of_both chain xs ys one first second = closed_of_both (fresh chain xs) (fresh chain ys) (fresh_of_one chain xs ys one) first second

-- ---- the chain after an epoch

-- the chain of before is a part of it
pub chain_grows : (chain log : List Row) → IsPart chain (chain_after chain log)
chain_grows chain log = (closed_part (fresh chain log), refl)

pub chain_of_part : (chain xs ys : List Row) → IsPart (closed_part (fresh chain xs)) (closed_part (fresh chain ys)) → IsPart (chain_after chain xs) (chain_after chain ys)
chain_of_part chain xs ys part = part_before (closed_part (fresh chain xs)) (closed_part (fresh chain ys)) chain part

-- what the chain got of a log is as good as the log
pub chain_by_gained : (chain log : List Row) → chain_after chain (closed_part (fresh chain log)) ≡ chain_after chain log
chain_by_gained chain log = ap (λ (q : List Row). q ++ chain) (gained_again chain log)

-- each client and request stands there once, where it does in the chain
once_in_part : (more rs : List Row) → AreOnce (more ++ rs) → AreOnce rs
once_in_part [] rs once = once
once_in_part (m ∷ more) rs once = once_in_part more rs once.1

pub after_once : (chain log : List Row) → AreOnce chain → AreOnce (chain_after chain log)
after_once chain log once =
    let part = part_before (closed_part (fresh chain log)) (fresh chain log) chain (closed_in_log (fresh chain log)) in
    once_in_part part.0 (chain_after chain log) (subst (λ (l : List Row). AreOnce l) (sym part.1) (fresh_once chain log once))
