use Rattle.std.proofs.Common.{◌≡◌, ℕ, ◌<◌, ◌%◌, Bool, Option, Some, None, length, refl, sym, ◌∙◌, ap, subst, arith}
use Rattle.std.specs.Prelude.{min}
use Rattle.std.specs.List.{slice_get}
use Rattle.schedule_drive.specs.Lanes.{IsLane, without_taken}
use Rattle.schedule_drive.specs.Pickers.{open_numbers, is_left}
use Rattle.schedule_drive.proofs.Lists.{get_set_same, get_set_other, set_length}
use Rattle.schedule_drive.proofs.Senders.{sender_picked, none_out, link_at, lane_to, flag_to, none_there, link_player}
use Rattle.schedule_drive.proofs.sender.Sender.pick.Goals as goal

pub returns-then-at-len-clause-sent : goal.returns-then-at-len-clause-sent
returns-then-at-len-clause-sent c = λ p count passed y is there.
    let below = none_there p count passed c.args.self.now is c.args.at y there in
    absurd (omega (arith, below, c.if-at-len.true, c.len.ensures))

pub returns-in_default-clause-sent : goal.returns-in_default-clause-sent
returns-in_default-clause-sent c = λ p count passed y is there.
    let s = c.args.self.now in
    let link = c.index_mut-link.result.now in
    let left : ℕ → Bool = is_left passed s.player y in
    let frames = open_numbers count passed s.player y in
    let number = slice_get frames (c.args.word % min 8 (length frames)) in
    let here = link_at s c.args.at link (omega (arith, c.if-at-len.false, c.len.ensures)) c.index_mut-link.ensures.value in
    let lane = lane_to p count passed s is c.args.at y link there here in
    let picked : c.in_ok-number.field-0 ≡ number = c.in_ok-number.ensures.number (count y) left lane in
    let none : number ≡ None = sym picked ∙ c.in_default.is in (
      none,
      sender_picked p count passed c.args.word number s _ is c.args.at y link _ there here refl refl refl refl
          (subst (λ (o : Option ℕ). IsLane c.pick.new.self (count y) (without_taken c.args.word o left)) picked (c.in_ok-number.ensures.lane (count y) left lane)) refl
          (flag_to p count passed s is c.args.at y link there here ∙ ap (λ (b : Bool). Some b) (none_out (count y) c.args.word left number none)) (λ i apart. refl),
    )

pub returns-clause-sent : goal.returns-clause-sent
returns-clause-sent c = λ p count passed y is there.
    let s = c.args.self.now in
    let link = c.index_mut-link.result.now in
    let left : ℕ → Bool = is_left passed s.player y in
    let frames = open_numbers count passed s.player y in
    let number = slice_get frames (c.args.word % min 8 (length frames)) in
    let below : c.args.at < length s.links.items = omega (arith, c.if-at-len.false, c.len.ensures) in
    let here = link_at s c.args.at link below c.index_mut-link.ensures.value in
    let lane = lane_to p count passed s is c.args.at y link there here in
    let picked : c.in_ok-number.field-0 ≡ number = c.in_ok-number.ensures.number (count y) left lane in
    let to_y = link_player p count passed s is c.args.at y link there here in
    let new_lane = subst (λ (o : Option ℕ). IsLane c.pick.new.self (count y) (without_taken c.args.word o left)) picked (c.in_ok-number.ensures.lane (count y) left lane) in
    let flag = c.is_open-is_open.ensures (count y) (without_taken c.args.word number left) new_lane in
    let within : c.args.at < length s.row = omega (arith, below, is.many) in (
      (sym picked ∙ c.in-Some.is, refl, to_y, (is.each c.args.at link here).place ∙ ap Some to_y),
      sender_picked p count passed c.args.word number s _ is c.args.at y link _ there here refl refl refl refl new_lane
          (ap length c.set.ensures ∙ set_length s.row c.args.at c.is_open-is_open.result)
          (ap (λ bs. slice_get bs c.args.at) c.set.ensures ∙ get_set_same s.row c.args.at c.is_open-is_open.result within ∙ ap Some flag)
          (λ i apart. ap (λ bs. slice_get bs i) c.set.ensures ∙ get_set_other s.row c.args.at i c.is_open-is_open.result apart),
    )
