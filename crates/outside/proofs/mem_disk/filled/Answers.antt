use Rattle.std.proofs.Common.{arith, ◌≡◌, ◌≤◌, ◌-◌, ◌++◌, List, ℕ, [], zero, suc, refl, replicate, take, take_all, length, get_or, ◌∙◌, ap}
use Rattle.std.proofs.lemmas.List.{length-replicate}
use Rattle.outside.specs.Disks.{bytes_written}
use Rattle.outside.specs.DisksLaws.{length-written}
use Rattle.outside.specs.MemoryDisk.{IsSpanWithin, ranges_of}
use Rattle.outside.specs.Stops.{fills}
use Rattle.outside.specs.declared.mem_disk.Span.{Span}
use Rattle.outside.proofs.DiskSteps.{within_at, fills_more, no_ranges}
use Rattle.outside.proofs.mem_disk.filled.Goals as goal

-- a new list of so many bytes
grown : (count byte len : ℕ) (xs ys : List ℕ) → xs ≡ [] → len ≡ 0 → ys ≡ take count xs ++ replicate (count - len) byte → ys ≡ replicate count byte
grown count byte len xs ys none nil is =
    is ∙ ap (λ (x : List ℕ). take count x ++ replicate (count - len) byte) none ∙ ap (λ (n : ℕ). take count [] ++ replicate n byte) left ∙ taken count
  where
    left : count - len ≡ count
    left = omega (arith, nil)

    taken : (n : ℕ) → take n [] ++ replicate count byte ≡ replicate count byte
    taken zero = refl
    taken (suc n) = refl

pub loop-span-init : goal.loop-span-init
loop-span-init c = rw (no_ranges, c.in_ok-file.ensures.items) (refl, c.requires.short, c.in_ok-file.ensures.room)

pub overwrite-requires : goal.overwrite-requires
overwrite-requires c =
    let d : Span = record { at = 0; count = 0 } in
    let span : Span = get_or c.args.spans.now c.loop-span.span-index d in
    let bytes : c.deref.result.now ≡ replicate span.count c.args.byte =
    c.deref.ensures.value ∙ grown span.count c.args.byte _ c.new-bytes.result.items c.resize.new.self.items c.new-bytes.ensures.items c.new-bytes.ensures.len c.in_ok-resize.ensures.items in
    let within : IsSpanWithin c.args.room span = within_at c.args.room c.args.spans.now c.loop-span.span-index d c.loop-span-test.true c.requires.within in
    rw bytes (omega (arith, within, c.loop-span.invariant.2, length-replicate {A = ℕ} span.count c.args.byte))

pub loop-span-preserved : goal.loop-span-preserved
loop-span-preserved c =
    let d : Span = record { at = 0; count = 0 } in
    let span : Span = get_or c.args.spans.now c.loop-span.span-index d in
    let bytes : c.deref.result.now ≡ replicate span.count c.args.byte =
    c.deref.ensures.value ∙ grown span.count c.args.byte _ c.new-bytes.result.items c.resize.new.self.items c.new-bytes.ensures.items c.new-bytes.ensures.len c.in_ok-resize.ensures.items in
    let within : IsSpanWithin c.args.room span = within_at c.args.room c.args.spans.now c.loop-span.span-index d c.loop-span-test.true c.requires.within in
    let is : c.overwrite.new.file.items ≡ bytes_written span.at (replicate span.count c.args.byte) c.loop-span.file.items = c.overwrite.ensures.value ∙ ap (λ (x : List ℕ). bytes_written span.at x c.loop-span.file.items) bytes in (
      fills_more c.args.byte c.args.synced.now c.loop-span.file.items c.overwrite.new.file.items c.args.spans.now c.loop-span.span-index d c.loop-span-test.true c.loop-span.invariant.0 is,
      rw is (omega (arith, within, c.loop-span.invariant.1, length-replicate {A = ℕ} span.count c.args.byte, length-written span.at (replicate span.count c.args.byte) c.loop-span.file.items)),
      omega (arith, c.loop-span.invariant.2, c.overwrite.ensures.room),
    )

whole : (spans : List Span) (i : ℕ) → length spans ≤ i → take i spans ≡ spans
whole spans i le = take_all i spans le

pub returns-clause-value : goal.returns-clause-value
returns-clause-value c = c.loop-span.invariant.0 ∙ ap (λ (x : List Span). fills c.args.byte (ranges_of x) c.args.synced.now) (whole c.args.spans.now c.loop-span.span-index (omega (arith, c.loop-span-test.false)))
