-- Th5: where checking gives strings, they meet every constraint, differ wherever the leaf's classes differ, and are as the model has them.
use Prim.Native.Nat.{ℕ}
use native.Mathlib.Omega.{arith}
use mathlib.Core.Path.{refl, sym, subst}
use mathlib.Core.List.{List, []}
use Rattle.calculus.specs.Limits.{value_limit}
use Rattle.calculus.specs.Facts.{Question}
use Rattle.calculus.specs.Rules.{children}
use Rattle.calculus.specs.Meaning.{Assignment}
use Rattle.calculus.proofs.Walks.{followed→path, path→followed, leaf_in_range, leaf_met}
use Rattle.format.specs.Checking.{answer_of}
use Rattle.format.specs.ProperForm.{steps_with_child}
use Rattle.format.specs.Demands.{Answered, Th5}
use Rattle.format.proofs.Claimed.{claimed_asked, claimed_in_range, form→claimed}
use Rattle.format.proofs.Tickets.{steps_in_range}
use Rattle.format.proofs.Agreements.{agreements}
use Rattle.format.proofs.Leaves.{leaf_answers, leaf_gives_strings, short_strings}
use Rattle.format.proofs.Encoded.{encode_short}
use Rattle.format.proofs.Extended.{plain_judged}
use Rattle.format.proofs.ReadBack.{answers_judged}
use Rattle.format.proofs.Limits.{within→}
use Rattle.format.proofs.Strings.{model_size, integers_within, one_leaf, Given, accepted→given}
use Rattle.format.proofs.Proper.{given_proper}

given_holds : (t : List ℕ) (u : Question) (a : Assignment) (k : Given children t u a) → Answered t u (answer_of u k.leaf k.model)
given_holds t u a k =
    let q = claimed_in_range k.held.claimed in
    let path = followed→path u q.head (steps_with_child t) u.constraints k.leaf q.constraints (steps_in_range k.held) k.followed in
    let r = leaf_in_range u q.head (steps_with_child t) u.constraints k.leaf q.constraints (steps_in_range k.held) path in
    let (settled, met, short_lengths) = (agreements.leaves u k.leaf k.model (record { head = q.head; facts = r })).none.0 k.no_fault in
    let answers = leaf_answers u q k.leaf r k.model (model_size k.held) met settled in
    let given : Assignment = answer_of u k.leaf k.model in
    let short = short_strings u q k.leaf r k.model short_lengths answers in
    record {
      asked = claimed_asked k.held.claimed;
      for_question = answers.for_question;
      read_back =
          answers_judged t u [] given (plain_judged t (claimed_asked (form→claimed k.few k.held.claimed))) answers.for_question short
          (within→ value_limit given.ints (integers_within k.held));
      room =
          encode_short given (omega (arith, answers.for_question.strings, q.head.strings)) short
          (omega (arith, answers.for_question.integers, q.head.integers));
      meets_all = leaf_met u given (steps_with_child t) u.constraints k.leaf path answers.met;
      leaf = k.leaf;
      path = path;
      only_leaf =
          λ l p. one_leaf children u u.constraints l k.leaf (steps_with_child t)
          (path→followed u q.head (steps_with_child t) u.constraints l q.constraints (steps_in_range k.held) p) k.followed;
      differ = answers.differ;
      model = k.model;
      proper = (given_proper t u a k).0;
      given = leaf_gives_strings u q k.leaf r k.model (model_size k.held) met settled;
      integers = refl;
    }

pub strings_hold : Th5
strings_hold work answer t a e =
    let (u, k) = accepted→given children work answer t a e in
    (u, subst (Answered t u) (sym k.gives) (given_holds t u a k))
