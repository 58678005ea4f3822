use Rattle.std.proofs.Common.{refl, sym, ◌∙◌, ap, subst}
use Rattle.std.proofs.lemmas.Bool.{false≢true}
use Rattle.world_model.specs.Met.{met_with}
use Rattle.world_model.specs.Hashed.{IsDigestOf, Meets, prints_by_kind}
use Rattle.world_model.proofs.Watching.{are_met, said_added, nothing_said, from_another, digest_is, send_clashes, send_meets}
use Rattle.world_model.proofs.watch.Watch.meets.Goals as goal

pub returns-in_default-clause-met : goal.returns-in_default-clause-met
returns-in_default-clause-met c = λ w states seats stand many kind. record {
  verdict = refl;
  hashed = λ prints there.
      send_clashes c.digest_of.new.self c.args.keys.now c.args.item.now c.as_slice.result.now prints c.as_slice.ensures kind
      (subst (λ o. IsDigestOf c.digest_of.new.self c.args.keys.now c.as_slice.result.now prints o) c.in_default.is (c.in_ok-digest.ensures prints there));
  sent = λ fine. absurd (false≢true (sym fine));
}

pub returns-then-branch-clause-met : goal.returns-then-branch-clause-met
returns-then-branch-clause-met c = λ w states seats stand many kind. record {
  verdict = refl;
  hashed = λ prints there.
      subst (λ b. Meets c.add_entries.new.self (prints_by_kind c.args.keys.now c.args.item.now.slot c.args.item.now.kind c.args.item.now.value) prints b) c.if-branch.true
      (send_meets c.digest_of.new.self c.add_entries.new.self c.args.keys.now c.keys.result.now c.args.item.now c.as_slice.result.now c.in-Some.digest c.in_ok-met.met c.in_ok-add_entries.field-0 prints
      c.keys.ensures c.as_slice.ensures kind (c.in_ok-met.ensures w seats (are_met w states c.args.self.now stand) many)
      (subst (λ o. IsDigestOf c.digest_of.new.self c.args.keys.now c.as_slice.result.now prints o) c.in-Some.is (c.in_ok-digest.ensures prints there))
      c.in_ok-add_entries.ensures);
  sent = λ fine. absurd (false≢true (sym fine));
}

pub returns-in_ok-add-clause-met : goal.returns-in_ok-add-clause-met
returns-in_ok-add-clause-met c = λ w states seats stand many kind. record {
  verdict = refl;
  hashed = λ prints there.
      subst (λ b. Meets c.add_entries.new.self (prints_by_kind c.args.keys.now c.args.item.now.slot c.args.item.now.kind c.args.item.now.value) prints b) c.if-branch.false
      (send_meets c.digest_of.new.self c.add_entries.new.self c.args.keys.now c.keys.result.now c.args.item.now c.as_slice.result.now c.in-Some.digest c.in_ok-met.met c.in_ok-add_entries.field-0 prints
      c.keys.ensures c.as_slice.ensures kind (c.in_ok-met.ensures w seats (are_met w states c.args.self.now stand) many)
      (subst (λ o. IsDigestOf c.digest_of.new.self c.args.keys.now c.as_slice.result.now prints o) c.in-Some.is (c.in_ok-digest.ensures prints there))
      c.in_ok-add_entries.ensures);
  sent = λ fine.
      let digest = digest_is w states c.args.self.now c.digest_of.new.self c.args.keys.now c.args.item.now c.as_slice.result.now c.in-Some.digest stand c.as_slice.ensures
      (λ prints there. subst (λ o. IsDigestOf c.digest_of.new.self c.args.keys.now c.as_slice.result.now prints o) c.in-Some.is (c.in_ok-digest.ensures prints there)) in
      said_added c.args.self.now.sent.table c.add.new.self.table c.args.keys.now c.args.at c.args.item.now c.in_ok-met.met c.if-item.true kind
      (c.in_ok-met.ensures w seats (are_met w states c.args.self.now stand) many ∙ ap (met_with c.args.keys.now c.args.item.now.slot) digest) c.in_ok-add.ensures;
}

pub returns-else-item-clause-met : goal.returns-else-item-clause-met
returns-else-item-clause-met c = λ w states seats stand many kind. record {
  verdict = refl;
  hashed = λ prints there.
      subst (λ b. Meets c.add_entries.new.self (prints_by_kind c.args.keys.now c.args.item.now.slot c.args.item.now.kind c.args.item.now.value) prints b) c.if-branch.false
      (send_meets c.digest_of.new.self c.add_entries.new.self c.args.keys.now c.keys.result.now c.args.item.now c.as_slice.result.now c.in-Some.digest c.in_ok-met.met c.in_ok-add_entries.field-0 prints
      c.keys.ensures c.as_slice.ensures kind (c.in_ok-met.ensures w seats (are_met w states c.args.self.now stand) many)
      (subst (λ o. IsDigestOf c.digest_of.new.self c.args.keys.now c.as_slice.result.now prints o) c.in-Some.is (c.in_ok-digest.ensures prints there))
      c.in_ok-add_entries.ensures);
  sent = λ fine. nothing_said c.args.self.now.sent.table c.args.keys.now c.args.at c.args.item.now (from_another c.args.item.now c.if-item.false);
}
