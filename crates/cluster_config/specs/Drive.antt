-- The configuration of a schedule that is to be made: its lines, in their order.
use Rattle.std.specs.Prelude.{ℕ, List, codes, refl}
use Rattle.ritas_base.specs.Numbers.{Numbers}
use Rattle.ritas_base.specs.RootServices.{most_root}
use Rattle.ritas_base.specs.declared.mode.FrameVersion.{FrameVersion}
use Rattle.ritas_base.specs.declared.mode.Vect.{Vect}
use Rattle.ritas_base.specs.declared.plan.Order.{Order}
use Rattle.ritas_base.specs.declared.plan.Attack.{Attack}
use Rattle.ritas_base.specs.declared.plan.Plan.{Plan}
use Rattle.cluster_config.specs.Values.{most, number_in, vect_in, key_in, order_in, attack_in}
use Rattle.cluster_config.specs.Columns.{Column, Line}
use Rattle.cluster_config.specs.Front.{session_lines, numbers_lines, copies_line}

-- what a plan says
pub record Planned : Type 0 where
  pub session : ℕ
  pub p : Numbers
  pub root : ℕ
  pub vect : Vect
  pub version : FrameVersion
  pub master : List ℕ
  pub order : Order
  pub attack : Attack
  pub start : ℕ
  pub commands : ℕ
  pub copies : ℕ

abbrev pub planned : Plan → Planned
planned plan = record {
  session = plan.session;
  p = plan.p;
  root = plan.mode.root;
  vect = plan.mode.vect;
  version = plan.mode.version;
  master = plan.master;
  order = plan.order;
  attack = plan.attack;
  start = plan.start_number;
  commands = plan.commands;
  copies = plan.copies;
}

-- the lines of a plan
unfoldable pub drive_column : Column Planned
drive_column =
    session_lines (λ version session.
    numbers_lines (λ p.
    Line (codes "root") refl (number_in 1 most_root) (λ root.
    Line (codes "vect") refl vect_in (λ vect.
    Line (codes "master") refl key_in (λ master.
    Line (codes "order") refl order_in (λ order.
    Line (codes "attack") refl attack_in (λ attack.
    Line (codes "start") refl (number_in 0 most) (λ start.
    Line (codes "commands") refl (number_in 0 10000) (λ commands.
    copies_line p.n (λ copies.
    record { session = session; p = p; root = root; vect = vect; version = version; master = master; order = order; attack = attack; start = start; commands = commands; copies = copies }))))))))))
