-- What is answered to the text of a configuration.
use Rattle.std.proofs.Common.{◌≡◌, ◌≢◌, ℕ, ◌<◌, ◌≤◌, List, [], Bool, length, Result, Ok, Err, Vec, Global, refl, sym, ◌∙◌, ap, inl, inr, subst, arith}
use Rattle.std.proofs.lemmas.List.{append-nil}
use Rattle.outside.specs.declared.whole.ReadFault.{ReadFault}
use Rattle.cluster_config.specs.Columns.{Column, read_text}
use Rattle.ritas.specs.Run.{Replies}
use Rattle.ritas.specs.Configs.{AnswersText, IsIdle}
use Rattle.ritas.specs.Statuses.{text_limit, limit_text, line_text}

abbrev as_fault : ReadFault → Result (Vec ℕ Global) ReadFault
as_fault e = Err e

pub same_fault : (e d : ReadFault) → as_fault e ≡ as_fault d → e ≡ d
same_fault e d same = cc

-- ---- nothing was done

not_own : {A : Type 0} (status : ℕ) → IsIdle status → (status ≢ 4) × (status ≢ 5) × (status ≢ 8) → A
not_own status (inl four) is = absurd (is.0 four)
not_own status (inr eight) is = absurd (is.2 eight)

pub idle_replies : {K : Type 0} (tells : Bool) (taken : K → List ℕ) (old new : K) (status own : ℕ) (text : List ℕ) → IsIdle status → new ≡ old
    → Replies tells taken old new status own text
idle_replies tells taken old new status own text idle same = record {
  answer = λ is. not_own status idle is;
  whole = λ told is. not_own status idle is;
  front = λ told. record { front = []; rest = text; parts = refl; taken = ap taken same ∙ sym (append-nil (taken old)) };
}

pub untouched : {K : Type 0} (tells : Bool) (taken : K → List ℕ) (old new : K) (status own : ℕ) (text : List ℕ) → status ≡ 8 → new ≡ old → Replies tells taken old new status own text
untouched tells taken old new status own text eight same = idle_replies tells taken old new status own text (inr eight) same

-- ---- texts

abbrev as_read : {X : Type 0} → X → Result X ℕ
as_read x = Ok x

abbrev as_wrong : {X : Type 0} → ℕ → Result X ℕ
as_wrong line = Err line

same_ok : {X : Type 0} (x y : X) → as_read x ≡ as_read y → x ≡ y
same_ok x y e = cc

same_err : {X : Type 0} (i j : ℕ) → as_wrong {X = X} i ≡ as_wrong j → i ≡ j
same_err i j e = cc

either : {X A : Type 0} (x : X) (line : ℕ) → as_read x ≡ as_wrong line → A
either x line e = absurd (cc)

module _ {K X C : Type 0} (column : Column X) (says : C → X) (tells : Bool) (taken : K → List ℕ) (old new : K) (status : ℕ) (text : List ℕ)
    (still : Type 0) (answers : C → Type 0) where
  abbrev Answered : Type 0
  Answered = AnswersText column says tells taken old new status text still answers

  pub right_text : ((c d : C) → says c ≡ says d → c ≡ d) → length text ≤ text_limit → (config : C) → read_text column text ≡ Ok (says config) → answers config → Answered
  right_text one within config is answer = record {
    long = λ over. absurd (omega (arith, within, over));
    right = λ _ other read. subst answers (one config other (same_ok (says config) (says other) (sym is ∙ read))) answer;
    wrong = λ _ line read. either (says config) line (sym is ∙ read);
  }

  pub wrong_text : length text ≤ text_limit → (line : ℕ) → read_text column text ≡ Err line → Replies tells taken old new status 3 (line_text line) → still → Answered
  wrong_text within line is replies same = record {
    long = λ over. absurd (omega (arith, within, over));
    right = λ _ config read. either (says config) line (sym read ∙ is);
    wrong = λ _ other read. (subst (λ (l : ℕ). Replies tells taken old new status 3 (line_text l)) (same_err {X = X} line other (sym is ∙ read)) replies, same);
  }

  pub long_text : text_limit < length text → Replies tells taken old new status 7 (limit_text text_limit) → still → Answered
  long_text over replies same = record {
    long = λ _. (replies, same);
    right = λ within config read. absurd (omega (arith, within, over));
    wrong = λ within line read. absurd (omega (arith, within, over));
  }

  pub idle_text : IsIdle status → new ≡ old → still → ((config : C) → answers config) → Answered
  idle_text idle same link answer = record {
    long = λ over. (idle_replies tells taken old new status 7 (limit_text text_limit) idle same, link);
    right = λ within config read. answer config;
    wrong = λ within line read. (idle_replies tells taken old new status 3 (line_text line) idle same, link);
  }
