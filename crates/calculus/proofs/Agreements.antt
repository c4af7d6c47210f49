-- The agreements between words and tests, collected.
use Rattle.lists.proofs.Tests.{→true, true→}
use Rattle.calculus.specs.Classes.{labels, same_class, conflict}
use Rattle.calculus.specs.Agreements.{Agreements}
use Rattle.calculus.proofs.Fits.{fits→instance, instance→fits}
use Rattle.calculus.proofs.Shapes.{children_shape}
use Rattle.calculus.proofs.Classes.{class→chain, chain→class, literal→counts, counts→literal, conflict→, →conflict}
use Rattle.calculus.proofs.Settled.{settled→words, words→settled}

pub agreements : Agreements
agreements = record {
  instances = λ u b st r g cs. (fits→instance u r.head b r.facts st g, instance→fits u r.head b r.facts st g);
  shapes = λ u b st r g cs i. children_shape u b st cs (instance→fits u r.head b r.facts st g i);
  chains = λ u b r i j. (
    λ e. class→chain b i j (true→ e),
    λ c. →true (same_class (labels b) i j) (chain→class u r.head b r.facts i j c),
  );
  literals = λ u b r x l. (literal→counts u r.head b r.facts x, counts→literal u r.head b r.facts x l);
  conflicts = λ u b r. (
    λ e. conflict→ u r.head b r.facts (true→ e),
    λ c. →true (conflict u b) (→conflict u r.head b r.facts c),
  );
  leaves = λ u b r m. (settled→words u r.head b r.facts m, words→settled u r.head b r.facts m);
}
