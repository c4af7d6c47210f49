use Rattle.std.proofs.Common.{refl, ◌∙◌, rules, tests}
use Rattle.std.proofs.lemmas.Iterator.Search.{all_from_yields_List}
use Rattle.std.proofs.lemmas.Iterator.Consumers.{YieldsList-from_first}
use Rattle.lists.proofs.Library.{list_all_is}
use Rattle.calculus.specs.Alphabet.{is_character, all_characters}
use Rattle.calculus.proofs.Alphabet.{test_is}
use Rattle.format.specs.Fields.{fields, u32, u32s}
use Rattle.question.proofs.all_characters.Goals as goal

pub returns : goal.returns
unfolding all_characters u32s
returns c =
    let s = c.args in
    all_from_yields_List {all = c.fields_at.result} (is_character s.n) _ _ _ c.all.ensures.ran (YieldsList-from_first _ _ _ refl) (λ x b q k. search (rules, tests, test_is s.n x))
    ∙ rw c.fields_at.ensures (list_all_is (is_character s.n) (fields 4 (u32 s.b.now) s.at s.count))
