-- The frames that are for one receiver.
use Rattle.std.proofs.Common.{◌≡◌, ◌≢◌, ℕ, zero, suc, ◌+◌, ◌<◌, ◌≤◌, ◌%◌, ◌^◌, Bool, true, false, not, cond, ◌&&◌, ◌==◌, List, [], ◌∷◌, ◌++◌, map, filter, length, reverse, inl, inr, refl, sym, ◌∙◌, ap, ap₂, subst, arith, append_assoc, append-nil, add-zero, add-one, eq-eqb}
use Rattle.std.specs.List.{range_with_len}
use Rattle.std.proofs.Math.Nat.{eq-or-lt_of_le}
use Rattle.std.proofs.lemmas.List.{map-append, reverse-append}
use Rattle.std.proofs.lemmas.List.Elements.{filter-append}
use Rattle.std.proofs.lemmas.Bool.{ne_eqb}
use Rattle.ritas_base.specs.declared.item.Msg.{Msg}
use Rattle.ritas_base.specs.Messages.{reaches}
use Rattle.keyed_channel.specs.KeyRow.{KeyRow}
use Rattle.keyed_channel.specs.Frames.{sealed}
use Rattle.ritas_core.specs.Order.{sent_to, new_messages}
use Rattle.replica.specs.Out.{OutFrame}
use Rattle.replica.specs.Frames.{frames_of, body_of, count_for, made_for, sealed_onto}
use Rattle.replica.specs.Sending.{counts_with}
use Rattle.replica.specs.Laws.{bytes_for, MadeByEntry, MadeLength}
use Rattle.replica.proofs.Sealing.{map_more}
use Rattle.replica.proofs.Sends.{frames_for}

-- ---- how many

onto_length : (k : KeyRow) (j : ℕ) (ms : List Msg) (frames : List (List ℕ)) → length (sealed_onto k j ms frames) ≡ length frames + length ms
onto_length k j [] frames = sym (add-zero (length frames))
onto_length k j (m ∷ ms) frames =
    let frame = sealed k j (length frames % 2 ^ 64) (body_of k.me m) in
    omega (arith, onto_length k j ms (frame ∷ frames))

pub made_length : MadeLength
made_length r k [] j = refl
made_length r k (e ∷ h) j =
    onto_length k j (sent_to j (new_messages r h e)) (made_for r k h j) ∙ ap (λ x. x + length (sent_to j (new_messages r h e))) (made_length r k h j)

-- ---- those for one receiver

-- a frame for each of some replicas
abbrev frame_to : (ℕ → List ℕ) → ℕ → OutFrame
frame_to b i = record { to = i; bytes = b i }

abbrev those_for : ℕ → List OutFrame → List OutFrame
those_for j frames = filter (λ f. f.to == j) frames

last_other : (p : ℕ → Bool) (b : ℕ → List ℕ) (j n : ℕ) → (n == j) ≡ false → those_for j (cond (p n) (frame_to b n ∷ []) []) ≡ []
last_other p b j n other =
    elim (p n) as (λ c. those_for j (cond c (frame_to b n ∷ []) []) ≡ []) [
      | true ↦ ap (λ c. cond c (frame_to b n ∷ []) []) other
      | false ↦ refl
    ]

last_same : (p : ℕ → Bool) (b : ℕ → List ℕ) (j : ℕ) → those_for j (cond (p j) (frame_to b j ∷ []) []) ≡ cond (p j) (frame_to b j ∷ []) []
last_same p b j =
    elim (p j) as (λ c. those_for j (cond c (frame_to b j ∷ []) []) ≡ cond c (frame_to b j ∷ []) []) [
      | true ↦ ap (λ c. cond c (frame_to b j ∷ []) []) (eq-eqb j j refl)
      | false ↦ refl
    ]

abbrev made_below : (ℕ → Bool) → (ℕ → List ℕ) → ℕ → List OutFrame
made_below p b n = map (frame_to b) (filter p (range_with_len 0 n))

one_more : (p : ℕ → Bool) (b : ℕ → List ℕ) (j n : ℕ) →
    those_for j (made_below p b (suc n)) ≡ those_for j (made_below p b n) ++ those_for j (cond (p n) (frame_to b n ∷ []) [])
one_more p b j n =
    ap (λ x. those_for j (made_below p b x)) (sym (add-one n)) ∙ ap (those_for j) (map_more p (frame_to b) n)
    ∙ filter-append (λ f. f.to == j) (made_below p b n) (cond (p n) (frame_to b n ∷ []) [])

none_for : (p : ℕ → Bool) (b : ℕ → List ℕ) (j n : ℕ) → n ≤ j → those_for j (made_below p b n) ≡ []
none_for p b j zero below = refl
none_for p b j (suc n) below =
    one_more p b j n ∙ ap₂ (λ x y. x ++ y) (none_for p b j n (omega arith)) (last_other p b j n (ne_eqb n j (λ same. omega arith)))

one_for : (p : ℕ → Bool) (b : ℕ → List ℕ) (j n : ℕ) → j < n → those_for j (made_below p b n) ≡ cond (p j) (frame_to b j ∷ []) []
one_for p b j zero below = absurd (omega arith)
one_for p b j (suc n) below = elim (eq-or-lt_of_le below_n) [
  | inl same ↦
      let P : ℕ → Type 0 = λ x. those_for j (made_below p b (suc x)) ≡ cond (p j) (frame_to b j ∷ []) [] in
      subst P same (one_more p b j j ∙ ap₂ (λ x y. x ++ y) (none_for p b j j (omega arith)) (last_same p b j))
  | inr less ↦
      one_more p b j n ∙ ap₂ (λ x y. x ++ y) (one_for p b j n less) (last_other p b j n (ne_eqb n j (λ same. omega arith)))
      ∙ append-nil (cond (p j) (frame_to b j ∷ []) [])
]
  where
    below_n : j ≤ n
    below_n = omega arith

-- of a message's frames one is for j, if the message comes to it
message_for : (k : KeyRow) (count : ℕ → ℕ) (m : Msg) (j : ℕ) → j < k.n → j ≢ k.me
    → bytes_for j (frames_for k count m) ≡ cond (reaches m.to j) (sealed k j (count j % 2 ^ 64) (body_of k.me m) ∷ []) []
message_for k count m j below other =
    let b : ℕ → List ℕ = λ i. sealed k i (count i % 2 ^ 64) (body_of k.me m) in
    ap (map (λ f. f.bytes)) (one_for (λ i. reaches m.to i && not (i == k.me)) b j k.n below)
    ∙ ap (λ c. map (λ f. f.bytes) (cond (reaches m.to j && not c) (frame_to b j ∷ []) [])) (ne_eqb j k.me other)
    ∙ elim (reaches m.to j) as (λ c. map (λ f. f.bytes) (cond (c && true) (frame_to b j ∷ []) []) ≡ cond c (b j ∷ []) []) [ true ↦ refl | false ↦ refl ]

bytes_append : (j : ℕ) (xs ys : List OutFrame) → bytes_for j (xs ++ ys) ≡ bytes_for j xs ++ bytes_for j ys
bytes_append j xs ys =
    ap (map (λ f. f.bytes)) (filter-append (λ f. f.to == j) xs ys) ∙ map-append (λ f. f.bytes) (those_for j xs) (those_for j ys)

-- one message more, where b says whether it comes to j
onto_step : (k : KeyRow) (j : ℕ) (m : Msg) (ms : List Msg) (rest frames : List (List ℕ)) (count : ℕ) (b : Bool) → count ≡ length frames
    → sealed_onto k j (sent_to j ms) (cond b (sealed k j (length frames % 2 ^ 64) (body_of k.me m) ∷ frames) frames)
    ≡ rest ++ cond b (sealed k j (length frames % 2 ^ 64) (body_of k.me m) ∷ frames) frames
    → sealed_onto k j (cond b (m ∷ sent_to j ms) (sent_to j ms)) frames
    ≡ (rest ++ reverse (cond b (sealed k j (count % 2 ^ 64) (body_of k.me m) ∷ []) [])) ++ frames
onto_step k j m ms rest frames count true same was =
    let frame : ℕ → List ℕ = λ x. sealed k j (x % 2 ^ 64) (body_of k.me m) in
    was ∙ sym (append_assoc rest (frame (length frames) ∷ []) frames) ∙ ap (λ x. (rest ++ frame x ∷ []) ++ frames) (sym same)
onto_step k j m ms rest frames count false same was = was ∙ ap (λ x. x ++ frames) (sym (append-nil rest))

grown : (m : Msg) (j c : ℕ) (x : List ℕ) (frames : List (List ℕ)) (b : Bool) → c ≡ length frames → c + length (cond b (m ∷ []) []) ≡ length (cond b (x ∷ frames) frames)
grown m j c x frames true same = omega arith
grown m j c x frames false same = omega arith

onto : (k : KeyRow) (j : ℕ) (count : ℕ → ℕ) (ms : List Msg) (frames : List (List ℕ)) → j < k.n → j ≢ k.me → count j ≡ length frames
    → sealed_onto k j (sent_to j ms) frames ≡ reverse (bytes_for j (frames_of k count ms)) ++ frames
onto k j count [] frames below other same = refl
onto k j count (m ∷ ms) frames below other same =
    let frame = sealed k j (length frames % 2 ^ 64) (body_of k.me m) in
    let rest = frames_of k (counts_with count (m ∷ [])) ms in
    let now = cond (reaches m.to j) (frame ∷ frames) frames in
    onto_step k j m ms (reverse (bytes_for j rest)) frames (count j) (reaches m.to j) same
    (onto k j (counts_with count (m ∷ [])) ms now below other (grown m j (count j) frame frames (reaches m.to j) same))
    ∙ ap (λ x. (reverse (bytes_for j rest) ++ reverse x) ++ frames) (sym (message_for k count m j below other))
    ∙ ap (λ x. x ++ frames) (sym (reverse-append (bytes_for j (frames_for k count m)) (bytes_for j rest)))
    ∙ ap (λ x. reverse x ++ frames) (sym (bytes_append j (frames_for k count m) rest))

pub made_by_entry : MadeByEntry
made_by_entry r k h e j below other = onto k j (count_for r h) (new_messages r h e) (made_for r k h j) below other (sym (made_length r k h j))
