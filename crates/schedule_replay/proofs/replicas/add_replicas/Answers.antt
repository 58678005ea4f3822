use Rattle.std.proofs.Common.{◌≡◌, ℕ, ◌<◌, List, ◌++◌, false, sym, ◌∙◌, ap, arith, string_bytes}
use Rattle.std.specs.List.{flat_map, range_with_len}
use Rattle.std.proofs.lemmas.List.{append-nil}
use Rattle.world_model.specs.World.{rules_at, states_of}
use Rattle.schedule_replay.specs.Replicas.{lines_at}
use Rattle.schedule_replay.proofs.Written.{chosen, chosen_in, chosen_out, lines_chosen, written_next}
use Rattle.schedule_replay.proofs.replicas.add_replicas.Goals as goal
use Rattle.schedule_replay.proofs.replicas.add_replicas.Goals.{in-Some+in_ok-add_lines-in-Some, in-None}

pub loop-i-preserved : goal.loop-i-preserved
loop-i-preserved g c = λ w es stands n cores.
    let i = c.loop-i.i in
    let below : i < w.numbers.n = omega (arith, c.loop-i-test.true, n) in
    let line = chosen w.is_correct (lines_at c.args.lines w es) in
    let so_far = c.loop-i.invariant w es stands n cores in
    let at = c.replica.ensures.is w es stands in
    elim c.match-replica.branch [
      | in-Some+in_ok-add_lines-in-Some x ↦
          let is = rw x.in-Some.is at at in
          let more = x.in_ok-add_lines-in-Some.ensures w.start (rules_at w i) (w.keys i) (states_of w es i) is.stands is.live (cores i is.correct) in
          written_next (string_bytes c.args.text.now) (string_bytes c.loop-i.text) (string_bytes c.match-replica.text) line i so_far
          (ap string_bytes x.text-is ∙ (more ∙ ap (λ (l : List ℕ). string_bytes c.loop-i.text ++ l) (sym (chosen_in w.is_correct (lines_at c.args.lines w es) i is.correct))))
      | in-None x ↦
          let faulty : w.is_correct i ≡ false = rw x.in-None.is at at in
          written_next (string_bytes c.args.text.now) (string_bytes c.loop-i.text) (string_bytes c.match-replica.text) line i so_far
          (ap string_bytes x.text-is ∙ (sym (append-nil (string_bytes c.loop-i.text))
          ∙ ap (λ (l : List ℕ). string_bytes c.loop-i.text ++ l) (sym (chosen_out w.is_correct (lines_at c.args.lines w es) i faulty))))
    ]

pub returns : goal.returns
returns g c = λ w es stands n cores.
    let all : c.loop-i.i ≡ w.numbers.n = omega (arith, c.loop-i-test.false, c.loop-i.auto.i-end, n) in
    let lines = flat_map (chosen w.is_correct (lines_at c.args.lines w es)) in
    c.loop-i.invariant w es stands n cores
    ∙ (ap (λ (k : ℕ). string_bytes c.args.text.now ++ lines (range_with_len 0 k)) all
    ∙ ap (λ (l : List ℕ). string_bytes c.args.text.now ++ l) (sym (lines_chosen w.is_correct (lines_at c.args.lines w es) (range_with_len 0 w.numbers.n))))
