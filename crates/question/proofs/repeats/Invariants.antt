use mathlib.Core.Path.{◌≡◌}
use Prim.Native.Nat.{◌-◌}
use Rattle.calculus.specs.Strings.{given}
use Rattle.format.specs.Question.{text_of}
use Rattle.format.specs.Places.{skip, texts, literals_from}
use Rattle.question.proofs.repeats.Given as goal

abbrev pub invariant-loop : goal.invariant-loop
invariant-loop l = record {
  at_record : l.j ≡ skip l.b l.counter literals_from;
  left : given (text_of l.b l.at l.size) (texts l.b (l.k - l.counter) l.j) ≡ given (text_of l.b l.at l.size) (texts l.b l.k literals_from);
}
