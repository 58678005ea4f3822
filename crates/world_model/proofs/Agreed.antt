-- The law of agreement over every world, from the law of its service.
use Rattle.std.proofs.Common.{◌≡◌, ℕ, true, List, [], ◌∷◌, refl, ◌∙◌, ap, subst}
use Rattle.layer_api.specs.Runs.{calls_of, Has}
use Rattle.layer_api.specs.Words.{Word, Ask, bit_byte}
use Rattle.layer_api.specs.OneLog.{OneLog, IsRunOf}
use Rattle.command_log.specs.Rows.{entries_of_log}
use Rattle.command_log.specs.Laws.{chain_once}
use Rattle.ritas_core.specs.Rules.{seat_of}
use Rattle.ritas_base.specs.declared.event.Event.{Event}
use Rattle.ritas_base.specs.declared.id.Id.{Id}
use Rattle.world_model.specs.declared.audit.Audit.TheVariants.{Holds}
use Rattle.world_model.specs.World.{Setting, rules_at, states_of}
use Rattle.world_model.specs.Audit.{has_too_many, first_broken, audit_of}
use Rattle.world_model.specs.OneValueEach.{history_of}
use Rattle.world_model.specs.Agree.{identifier_log, command_delivered, OneIsPart, Agree, AgreeLaw}
use Rattle.world_model.proofs.Law.{audit_parts, enough_of, law_of}
use Rattle.world_model.proofs.Said.{asked_given}
use Rattle.world_model.proofs.Proposed.{decisions_proposed, entries_of_last, ids_appended}
use Rattle.world_model.proofs.Logged.{ids_distinct, rows_one, row_submitted, row_confirmed_at}
use Rattle.world_model.proofs.WordRuns.{WordsAt, session_of, words_after}
use Rattle.world_model.specs.CoreLaws.{CoreLaws}
use Rattle.world_model.proofs.Below.{IsSoundOver}

-- of the identifier logs of two replicas one is a part of the other, as of the words of the run
ids_one : (w : Setting) (es : List Event) → OneLog w.service → (x : WordsAt w (states_of w es)) → IsRunOf (session_of w) x.steps
    → (i j : ℕ) → w.is_correct i ≡ true → w.is_correct j ≡ true → OneIsPart (identifier_log w es i) (identifier_log w es j)
ids_one w es one x run i j left right =
    let done : ℕ → List Word → List Id = λ k words. w.service.done (seat_of (rules_at w k)) words in
    subst (λ (words : List Word). OneIsPart (done i words) (identifier_log w es j)) (x.same i left)
    (subst (λ (words : List Word). OneIsPart (done i (calls_of i x.steps)) (done j words)) (x.same j right)
    (one.logs w.numbers w.mode w.is_correct w.coin x.steps run i j left right))

-- of one world
agree_of : (w : Setting) (es : List Event) → IsSoundOver w → OneLog w.service → audit_of w es ≡ Holds → Agree w es
agree_of w es sound one holds =
    let audit = audit_parts (has_too_many w) (first_broken w es) holds in
    let x = words_after w sound audit.0 es audit.1 in
    let run : IsRunOf (session_of w) x.steps = record { enough = enough_of w sound audit.0; serves = sound.world.serves; fed = x.fed } in
    let values = law_of w es sound holds in
    let ids = ids_one w es one x run in
    let proposed = decisions_proposed w es sound audit.1 values one x run in
    record {
      logs = λ i j left right. rows_one w es sound holds values i j left right (ids i j left right);
      once = λ base i. chain_once w.start w.numbers.f (entries_of_log (command_delivered w es i) (identifier_log w es i)) base;
      own = λ i. refl;
      submitted = λ i r correct good here. row_submitted w es sound holds values i r correct good here;
      confirmed = row_confirmed_at w es sound holds values;
      identifiers = ids;
      distinct = ids_distinct w es sound holds values;
      values = values;
      outcomes = λ i j d e left right out_i out_j.
          one.outcomes w.numbers w.mode w.is_correct w.coin x.steps run i j d e left right
          (ap (w.service.outcome (seat_of (rules_at w i))) (x.same i left) ∙ out_i) (ap (w.service.outcome (seat_of (rules_at w j))) (x.same j right) ∙ out_j);
      decisions = λ i j place d e left right out_i out_j.
          one.decisions w.numbers w.mode w.is_correct w.coin x.steps run i j place d e left right
          (ap (λ (ws : List Word). w.service.decided (seat_of (rules_at w i)) ws place) (x.same i left) ∙ out_i)
          (ap (λ (ws : List Word). w.service.decided (seat_of (rules_at w j)) ws place) (x.same j right) ∙ out_j);
      bits = λ i b correct out.
          let from = one.bits w.numbers w.mode w.is_correct w.coin x.steps run i b correct (ap (w.service.outcome (seat_of (rules_at w i))) (x.same i correct) ∙ out) in (
            from.0,
            from.1,
            asked_given (rules_at w from.0) (history_of w es from.0) (bit_byte b ∷ [])
                (subst (λ (ws : List Word). Has ws (Ask (bit_byte b ∷ []))) (x.same from.0 from.1) from.2),
          );
      proposals = λ a attempt decides i v correct out.
          let from = one.proposals w.numbers w.mode w.is_correct w.coin x.steps run a attempt decides i v correct (ap (w.service.outcome (seat_of (rules_at w i))) (x.same i correct) ∙ out) in (
            from.0,
            from.1,
            asked_given (rules_at w from.0) (history_of w es from.0) v (subst (λ (ws : List Word). Has ws (Ask v)) (x.same from.0 from.1) from.2),
          );
      unspent = λ i correct out.
          one.unspent w.numbers w.mode w.is_correct w.coin x.steps run i correct (ap (w.service.outcome (seat_of (rules_at w i))) (x.same i correct) ∙ out);
      last_vectors = λ i j u v left right last_i last_j same.
          one.last_vectors w.numbers w.mode w.is_correct w.coin x.steps run i j u v left right
          (ap (w.service.last (seat_of (rules_at w i))) (x.same i left) ∙ last_i) (ap (w.service.last (seat_of (rules_at w j))) (x.same j right) ∙ last_j) same;
      proposed = proposed;
      entries = λ a decides i k v e left right out entry.
          asked_given (rules_at w k) (history_of w es k) e
          (subst (λ (ws : List Word). Has ws (Ask e)) (x.same k right)
          (one.entries w.numbers w.mode w.is_correct w.coin x.steps run a decides i k v e left right
          (ap (w.service.outcome (seat_of (rules_at w i))) (x.same i left) ∙ out) entry));
      last_entries = entries_of_last w es sound audit.1 values one x run;
      appended = ids_appended w es sound audit.1 values one x run;
    }

-- and of every world
pub agree_law : CoreLaws → AgreeLaw
agree_law core w es sound one holds = agree_of w es (record { world = sound; core = core }) one holds
