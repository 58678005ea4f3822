-- The text of an epoch, in front of bytes: its parts one after the other.
use Rattle.std.specs.Prelude.{◌≡◌, ℕ, List, [], ◌++◌, length, reverse, refl}
use Rattle.std.specs.Int.{w16, w32, to_be_bytes}
use Rattle.std.proofs.Common.{sym, ◌∙◌, ap, ap₂, arith, append_assoc}
use Rattle.std.proofs.lemmas.List.{append-nil, length-reverse, reverse-reverse}
use Rattle.command_log.specs.Rows.{Row}
use Rattle.command_log.specs.Pieces.{row_bytes, rows_bytes}
use Rattle.chain_file.specs.Epochs.{ClosedEpoch, EpochIs, FitsRow, IsEpoch, IsRequest, epoch_text, request_text, requests_text, rows_text, waiting_text}
use Rattle.chain_file.specs.Reading.{AreRequests, AreRows, BeginsAs, HasFourBytes, HasTwoBytes, epoch_read}
use Rattle.chain_file.specs.Laws.{EpochIsRead, TextIsOfOne}
use Rattle.chain_file.proofs.Lists.{all_reversed}
use Rattle.chain_file.proofs.Unique.{IsOne, many_one, one_of_four, one_of_two, one_request, one_row}

-- the requests and what follows them
abbrev behind_rows : ClosedEpoch → List ℕ → List ℕ
behind_rows e more = to_be_bytes w16 (length e.waiting) ++ (requests_text e.waiting ++ more)

-- its text in parts
in_parts : (e : ClosedEpoch) (more : List ℕ) → epoch_text e ++ more ≡ to_be_bytes w32 (length e.rows) ++ (rows_bytes (reverse e.rows) ++ behind_rows e more)
in_parts e more =
    let count = to_be_bytes w32 (length e.rows) in
    let rows = rows_bytes (reverse e.rows) in
    append_assoc (rows_text e.rows) (waiting_text e.waiting) more
    ∙ (append_assoc count rows (waiting_text e.waiting ++ more)
    ∙ ap (λ (l : List ℕ). count ++ (rows ++ l)) (append_assoc (to_be_bytes w16 (length e.waiting)) (requests_text e.waiting) more))

-- ---- what bytes have that begin with the text of an epoch

module _ (bytes first : List ℕ) (count : ℕ) (fits : HasFourBytes count) (begins : bytes ≡ to_be_bytes w32 count ++ first) (e : ClosedEpoch) (more : List ℕ) (is : IsEpoch e) (text : bytes ≡ epoch_text e ++ more) where
  abbrev HasCount : Type 0
  HasCount = (count ≡ length e.rows) × (first ≡ rows_bytes (reverse e.rows) ++ behind_rows e more)

  has_count : HasCount
  has_count = one_of_four count (length e.rows) first (rows_bytes (reverse e.rows) ++ behind_rows e more) fits is.few_rows (sym begins ∙ text ∙ in_parts e more)

  pub has_rows : (rows : List Row) × (tail : List ℕ) × AreRows count rows × (first ≡ rows_bytes rows ++ tail)
  has_rows =
      let many : length (reverse e.rows) ≡ count = omega (arith, length-reverse e.rows, has_count.0) in
      (reverse e.rows, behind_rows e more, (many, all_reversed FitsRow e.rows is.rows), has_count.1)

  module _ (rows : List Row) (second : List ℕ) (are : AreRows count rows) (rows_are : first ≡ rows_bytes rows ++ second) where
    pub same_rows : (rows ≡ reverse e.rows) × (second ≡ behind_rows e more)
    same_rows =
        let long : length rows ≡ length (reverse e.rows) = omega (arith, length-reverse e.rows, has_count.0, are.0) in
        many_one FitsRow row_bytes rows_bytes refl (λ x xs. refl) one_row rows (reverse e.rows) second (behind_rows e more) long are.1 (all_reversed FitsRow e.rows is.rows)
        (sym rows_are ∙ has_count.1)

    pub has_second : (n : ℕ) × (tail : List ℕ) × HasTwoBytes n × (second ≡ to_be_bytes w16 n ++ tail)
    has_second = (length e.waiting, requests_text e.waiting ++ more, is.few_waiting, same_rows.1)

    module _ (third : List ℕ) (many : ℕ) (many_fits : HasTwoBytes many) (second_is : second ≡ to_be_bytes w16 many ++ third) where
      same_count : (many ≡ length e.waiting) × (third ≡ requests_text e.waiting ++ more)
      same_count = one_of_two many (length e.waiting) third (requests_text e.waiting ++ more) many_fits is.few_waiting (sym second_is ∙ same_rows.1)

      pub has_waiting : (waiting : List (List ℕ)) × (tail : List ℕ) × AreRequests many waiting × (third ≡ requests_text waiting ++ tail)
      has_waiting = (e.waiting, more, (sym same_count.0, is.waiting), same_count.1)

      pub same_waiting : (waiting : List (List ℕ)) (rest : List ℕ) → AreRequests many waiting → third ≡ requests_text waiting ++ rest → (waiting ≡ e.waiting) × (rest ≡ more)
      same_waiting waiting rest these waiting_are =
          let long : length waiting ≡ length e.waiting = omega (arith, these.0, same_count.0) in
          many_one IsRequest request_text requests_text refl (λ x xs. refl) one_request waiting e.waiting rest more long these.1 is.waiting (sym waiting_are ∙ same_count.1)

-- ---- what was read

module _ (bytes first second third rest : List ℕ) (count many : ℕ) (rows : List Row) (waiting : List (List ℕ)) where
  pub is_read : HasFourBytes count → bytes ≡ to_be_bytes w32 count ++ first → AreRows count rows → first ≡ rows_bytes rows ++ second
      → HasTwoBytes many → second ≡ to_be_bytes w16 many ++ third → AreRequests many waiting → third ≡ requests_text waiting ++ rest
      → BeginsAs IsEpoch epoch_text bytes (epoch_read rows waiting) rest
  is_read few begins are rows_are few_waiting second_is these waiting_are =
      let e = epoch_read rows waiting in
      let long : length (reverse rows) ≡ count = omega (arith, length-reverse rows, are.0) in
      let turned = reverse-reverse rows in
      record {
        fits = record {
          few_rows = omega (arith, long, few);
          rows = all_reversed FitsRow rows are.1;
          few_waiting = omega (arith, these.0, few_waiting);
          waiting = these.1;
        };
        parts =
            begins
            ∙ ap₂ (λ (n : ℕ) (l : List ℕ). to_be_bytes w32 n ++ l) (sym long)
            (rows_are ∙ ap₂ (λ (l : List Row) (m : List ℕ). rows_bytes l ++ m) (sym turned)
            (second_is ∙ ap₂ (λ (n : ℕ) (l : List ℕ). to_be_bytes w16 n ++ l) (sym these.0) waiting_are))
            ∙ sym (in_parts e rest);
      }

-- ---- one epoch

pub one_epoch : IsOne IsEpoch epoch_text
one_epoch d e us vs d_is e_is same =
    let text = same in
    let first = rows_bytes (reverse d.rows) ++ behind_rows d us in
    let are : AreRows (length d.rows) (reverse d.rows) = (length-reverse d.rows, all_reversed FitsRow d.rows d_is.rows) in
    let rows = same_rows (epoch_text d ++ us) first (length d.rows) d_is.few_rows (in_parts d us) e vs e_is same (reverse d.rows) (behind_rows d us) are refl in
    let waiting = same_waiting (epoch_text d ++ us) first (length d.rows) d_is.few_rows (in_parts d us) e vs e_is same (reverse d.rows) (behind_rows d us) are refl
    (requests_text d.waiting ++ us) (length d.waiting) d_is.few_waiting refl d.waiting us (refl, d_is.waiting) refl in
    let of_rows : d.rows ≡ e.rows = sym (reverse-reverse d.rows) ∙ ap reverse rows.0 ∙ reverse-reverse e.rows in
    (ap₂ (λ (rs : List Row) (ws : List (List ℕ)). record { rows = rs; waiting = ws }) of_rows waiting.0, waiting.1)

pub text_is_of_one : TextIsOfOne
text_is_of_one d e d_is e_is same = (one_epoch d e [] [] d_is e_is (ap (λ (l : List ℕ). l ++ []) same)).0

pub epoch_is_read : EpochIsRead
epoch_is_read e is = ((is, refl), λ d of_d. text_is_of_one d e of_d.0 is (sym of_d.1))

-- where bytes are the text of an epoch, it is the one with which they begin, and nothing follows it
pub nothing_behind : (bytes rest : List ℕ) (d e : ClosedEpoch) → BeginsAs IsEpoch epoch_text bytes d rest → EpochIs bytes e → (d ≡ e) × (rest ≡ [])
nothing_behind bytes rest d e begins is = one_epoch d e rest [] begins.fits is.0 (sym begins.parts ∙ is.1 ∙ sym (append-nil (epoch_text e)))
