-- What a session begins and ends with.
use Rattle.std.specs.Prelude.{◌≡◌, ℕ, ◌≤◌, Bool, true, false, List, [], ◌∷◌, ◌++◌, Result, Ok, Err}
use Rattle.outside.specs.Faults.{count_after}
use Rattle.outside.specs.Links.{Starts}
use Rattle.outside.specs.Writing.{TookFront}
use Rattle.outside.specs.declared.link.LinkPlan.{LinkPlan}
use Rattle.schedule_file.specs.ReadHeader.{Heading}
use Rattle.schedule_file.specs.Spelling.{header_text}
use Rattle.node_loop.specs.declared.end.ServeEnd.{ServeEnd}
use Rattle.node_loop.specs.declared.end.ServeEnd.TheVariants as ends
use Rattle.node_loop.specs.Outs.{Outs, TapeFailed, LinkFailed, FellShort, Tells}

-- ---- the beginning

-- the header was written and the link was started, and no call failed or was without memory
pub record HasBegun (h : Heading) (plan : LinkPlan) (tells : Tells) (base now : Outs) : Type 0 where
  pub taken : tells.tape ≡ true → now.taken ≡ base.taken ++ header_text h
  pub told : tells.link ≡ true → now.told ≡ Starts plan ∷ base.told
  pub tape_stands : now.tape_faults ≡ base.tape_faults
  pub link_stands : now.link_faults ≡ base.link_faults

-- a fault came on the way there, and its cause
abbrev pub HasServeCause : Outs → Outs → ServeEnd → Type 0
HasServeCause base now ends.LinkFault = LinkFailed base now
HasServeCause base now ends.TapeFault = TapeFailed base now
HasServeCause base now ends.Mem = FellShort base now
HasServeCause base now end = ⊥

pub record HasFailed (h : Heading) (plan : LinkPlan) (tells : Tells) (base now : Outs) (end : ServeEnd) : Type 0 where
  pub taken : tells.tape ≡ true → TookFront base.taken now.taken (header_text h)
  pub told : tells.link ≡ true → now.told ≡ base.told
  pub tape_later : base.tape_faults ≤ now.tape_faults
  pub link_later : base.link_faults.failed ≤ now.link_faults.failed
  pub cause : HasServeCause base now end

abbrev pub OpensSession : Heading → LinkPlan → Tells → Outs → Outs → Result (Unit {0}) ServeEnd → Type 0
OpensSession h plan tells base now (Ok done) = HasBegun h plan tells base now
OpensSession h plan tells base now (Err end) = HasFailed h plan tells base now end

-- ---- the end

-- serving ended by a rule of its own
abbrev pub is_reason : ServeEnd → Bool
is_reason ends.Over = true
is_reason ends.Done = true
is_reason ends.Limit = true
is_reason ends.End = true
is_reason (ends.KeptFull x) = true
is_reason ends.LinkFault = false
is_reason ends.TapeFault = false
is_reason ends.Mem = false
is_reason ends.DiskFault = false
is_reason (ends.JournalFull x) = false

-- the end mark was written, or the output failed, which took it or not
pub data Closes (tells : Bool) (old new : List ℕ) (before now : ℕ) (end result : ServeEnd) : Type 0 where
  Closed : result ≡ end → now ≡ before → (tells ≡ true → new ≡ old ++ 0 ∷ []) → Closes tells old new before now end result
  Failed : result ≡ ends.TapeFault → now ≡ count_after before → before ≤ now → (tells ≡ true → TookFront old new (0 ∷ [])) → Closes tells old new before now end result
