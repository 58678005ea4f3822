-- How many frames there are: for each receiver, and all together.
use Rattle.std.proofs.Common.{◌≡◌, ℕ, ◌+◌, Bool, true, false, not, cond, ◌&&◌, ◌==◌, List, [], ◌∷◌, filter, length, refl, sym, ◌∙◌, ap, ap₂, arith, length-append}
use Rattle.std.specs.Prelude.{sum_by}
use Rattle.std.specs.List.{range_with_len}
use Rattle.std.proofs.lemmas.List.{length-map}
use Rattle.std.proofs.lemmas.List.Sums.{sum_by-cons}
use Rattle.ritas_base.specs.declared.item.Msg.{Msg}
use Rattle.ritas_base.specs.Messages.{reaches}
use Rattle.keyed_channel.specs.KeyRow.{KeyRow}
use Rattle.ritas_core.specs.Rules.{Rules}
use Rattle.ritas_core.specs.Parts.{Entry}
use Rattle.ritas_core.specs.Order.{sent_to, new_messages}
use Rattle.replica.specs.Frames.{frames_of, receivers, count_for, new_frames}
use Rattle.replica.specs.Stands.{peers, frames_made}
use Rattle.replica.specs.Sending.{counts_with}
use Rattle.replica.proofs.Sends.{frames_for}

pub sum_none : (xs : List ℕ) → sum_by (λ j. 0) xs ≡ 0
sum_none [] = refl
sum_none (x ∷ xs) = sum_by-cons (λ j. 0) x xs ∙ omega (arith, sum_none xs)

pub sum_both : (f g : ℕ → ℕ) (xs : List ℕ) → sum_by (λ j. f j + g j) xs ≡ sum_by f xs + sum_by g xs
sum_both f g [] = refl
sum_both f g (x ∷ xs) = omega (arith, sum_by-cons (λ j. f j + g j) x xs, sum_by-cons f x xs, sum_by-cons g x xs, sum_both f g xs)

-- how many of one message and of more come to j
one_more : (j : ℕ) (m : Msg) (ms : List Msg) → length (sent_to j (m ∷ ms)) ≡ length (sent_to j (m ∷ [])) + length (sent_to j ms)
one_more j m ms =
    elim (reaches m.to j) as (λ b. length (cond b (m ∷ sent_to j ms) (sent_to j ms)) ≡ length (cond b (m ∷ []) []) + length (sent_to j ms)) [
      | true ↦ omega arith
      | false ↦ omega arith
    ]

sum_same : (f g : ℕ → ℕ) (xs : List ℕ) → ((j : ℕ) → f j ≡ g j) → sum_by f xs ≡ sum_by g xs
sum_same f g [] h = refl
sum_same f g (x ∷ xs) h = sum_by-cons f x xs ∙ ap₂ (λ a b. a + b) (h x) (sum_same f g xs h) ∙ sym (sum_by-cons g x xs)

-- one replica more: a says whether the message reaches it, and b whether it is another
one_receiver : (c : ℕ → ℕ) (x : ℕ) (m : Msg) (rest others : List ℕ) (a b : Bool) → length rest ≡ sum_by c others → c x ≡ length (cond a (m ∷ []) [])
    → length (cond (a && b) (x ∷ rest) rest) ≡ sum_by c (cond b (x ∷ others) others)
one_receiver c x m rest others true true was e = omega (arith, sum_by-cons c x others)
one_receiver c x m rest others false true was e = omega (arith, sum_by-cons c x others)
one_receiver c x m rest others true false was e = was
one_receiver c x m rest others false false was e = was

-- a message is sealed for as many as it reaches of the others
receivers_are : (me : ℕ) (m : Msg) (xs : List ℕ) →
    length (filter (λ j. reaches m.to j && not (j == me)) xs) ≡ sum_by (λ j. length (sent_to j (m ∷ []))) (filter (λ j. not (j == me)) xs)
receivers_are me m [] = refl
receivers_are me m (x ∷ xs) =
    one_receiver (λ j. length (sent_to j (m ∷ []))) x m (filter (λ j. reaches m.to j && not (j == me)) xs) (filter (λ j. not (j == me)) xs)
    (reaches m.to x) (not (x == me)) (receivers_are me m xs) refl

pub frames_length : (k : KeyRow) (count : ℕ → ℕ) (ms : List Msg) → length (frames_of k count ms) ≡ sum_by (λ j. length (sent_to j ms)) (peers k)
frames_length k count [] = sym (sum_none (peers k))
frames_length k count (m ∷ ms) =
    let rest = frames_of k (counts_with count (m ∷ [])) ms in
    let first : length (frames_for k count m) ≡ sum_by (λ j. length (sent_to j (m ∷ []))) (peers k) =
    length-map (receivers k m) _ ∙ receivers_are k.me m (range_with_len 0 k.n) in
    length-append (frames_for k count m) rest
    ∙ ap₂ (λ a b. a + b) first (frames_length k (counts_with count (m ∷ [])) ms)
    ∙ sym (sum_both (λ j. length (sent_to j (m ∷ []))) (λ j. length (sent_to j ms)) (peers k))
    ∙ sum_same _ _ (peers k) (λ j. sym (one_more j m ms))

-- the frames made by one entry more
pub made_more : (r : Rules) (k : KeyRow) (h : List Entry) (e : Entry) → frames_made r k (e ∷ h) ≡ frames_made r k h + length (new_frames r k h e)
made_more r k h e =
    sum_both (count_for r h) (λ j. length (sent_to j (new_messages r h e))) (peers k)
    ∙ ap (λ x. frames_made r k h + x) (sym (frames_length k (count_for r h) (new_messages r h e)))
