use lib.Seq.{length-take-le}
use native.Mathlib.Omega.{arith}
use Rattle.assignment.proofs.Bounds.{small_columns}
use Rattle.format.proofs.Answers.{integers_there}
use Rattle.question.specs.Posed.{asked}
use Rattle.judging.proofs.judge_values.Goals as goal
use Rattle.judging.proofs.judge_values.Goals.{After-fill_columns}

pub record_places-places-requires : goal.record_places-places-requires
record_places-places-requires c =
    (c.requires.0.stands.few_strings, omega (arith, integers_there c.args.v.now c.args.s.p c.args.s.q c.requires.1))

pub slice_bounds-columns-end : goal.slice_bounds-columns-end
slice_bounds-columns-end c = let stands = c.requires.0.stands in omega (arith, stands.few_strings, stands.few_integers)

pub fill_columns-requires : goal.fill_columns-requires
fill_columns-requires c =
    let stands = c.requires.0.stands in record {
      values_len = length-take-le _ _ (omega (arith, stands.few_strings, stands.few_integers));
      q_value = (c.requires.1, c.record_places-places.ensures, omega (arith, stands.few_strings), stands.few_strings, stands.few_integers);
    }

pub first_unmet-requires : goal.first_unmet-requires
unfolding asked
first_unmet-requires c =
    let columns = c.fill_columns.ensures in
    let record-places = c.record_places-places in
    let stands = c.requires.0.stands in
    record {
      texts =
          record {
            posed = c.requires.0;
            formed = c.requires.1;
            placed = record-places.ensures;
            enough = omega (arith, stands.few_strings);
          };
      columns = columns;
      small =
          rw columns
          (small_columns c.args.v.now (asked c.args.b.now c.args.s) stands.few_characters c.requires.1 c.requires.2);
    }
