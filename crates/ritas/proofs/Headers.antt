-- Each heading that a file may have is that of a header.
use Rattle.std.proofs.Common.{◌≡◌, ◌≤◌, refl}
use Rattle.std.specs.Prelude.{nat_le}
use Rattle.std.proofs.lemmas.Bool.{and_parts, leb-true}
use Rattle.ritas_base.specs.RootServices.{most_root}
use Rattle.schedule_file.specs.declared.header.Header.{Header}
use Rattle.schedule_file.specs.ReadHeader.{Heading, heading}
use Rattle.schedule_file.specs.Spelling.{IsHeading}

-- a root service's number
root_of : (h : Heading) → IsHeading h → (1 ≤ h.root) × (h.root ≤ most_root)
root_of h is = let p = and_parts (nat_le 1 h.root) (nat_le h.root most_root) is.root in (leb-true 1 h.root p.0, leb-true h.root most_root p.1)

-- each heading that a file may have is that of a header
pub header_of : (k : Heading) → IsHeading k → (h : Header) × (heading h ≡ k)
header_of k is =
    let bounds = root_of k is in
    let h : Header = record {
      session = k.session;
      p = k.p;
      mode = record { root = k.root; vect = k.vect; version = k.version; low = bounds.0; high = bounds.1 };
      correct = k.correct;
      keys = k.keys;
    } in
    (h, refl)
