-- `listed_lengths`, `found`: a complete line is the next length, by `next_length`, and the rest is part of one, by `no_next`.
use Rattle.std.proofs.Common.{◌≡◌, ◌∙◌, ◌+◌, ◌≤◌, None, Some, sym, ap, arith, length, length-drop}
use Rattle.nms_serving.proofs.ResumeFacts.{all_listed, next_length, no_next, still_moved}
use Rattle.nms_serving.proofs.resuming.listed_lengths.Goals as goal

pub returns-in_err-next-clause-found : goal.returns-in_err-next-clause-found
returns-in_err-next-clause-found c = λ lengths published torn are.
    let next = next_length c.digits_read_as_printed.ensures published c.loop-end.length c.in-Some.end torn c.loop-end.rest.now
    are.possible (record { none = are.part }) (c.loop-end.invariant.still lengths published torn are)
    (sym c.line_end.ensures.place ∙ c.in-Some.is) in
    let none : None ≡ Some next.next = sym c.in_err-next.was ∙ c.parse_digits.ensures.number ∙ next.number in
    absurd (cc)

pub returns-then-next-length-clause-found : goal.returns-then-next-length-clause-found
returns-then-next-length-clause-found c = λ lengths published torn are.
    let next = next_length c.digits_read_as_printed.ensures published c.loop-end.length c.in-Some.end torn c.loop-end.rest.now
    are.possible (record { none = are.part }) (c.loop-end.invariant.still lengths published torn are)
    (sym c.line_end.ensures.place ∙ c.in-Some.is) in
    let some : Some c.in_ok-next.next ≡ Some next.next = sym c.in_ok-next.was ∙ c.parse_digits.ensures.number ∙ next.number in
    let same : c.in_ok-next.next ≡ next.next = cc in
    absurd (omega (arith, same, next.more, c.if-next-length.true))

pub loop-end-preserved : goal.loop-end-preserved
loop-end-preserved c = record {
  still = λ lengths published torn are.
      let next = next_length c.digits_read_as_printed.ensures published c.loop-end.length c.in-Some.end torn c.loop-end.rest.now
      are.possible (record { none = are.part }) (c.loop-end.invariant.still lengths published torn are)
      (sym c.line_end.ensures.place ∙ c.in-Some.is) in
      let some : Some c.in_ok-next.next ≡ Some next.next = sym c.in_ok-next.was ∙ c.parse_digits.ensures.number ∙ next.number in
      let same : c.in_ok-next.next ≡ next.next = cc in
      still_moved published c.in_ok-next.next next.next torn c.rest_after-rest.result.now _ same c.rest_after-rest.ensures next.still;
  within =
      let less : length c.rest_after-rest.result.now ≤ length c.loop-end.rest.now =
      omega (arith, ap length c.rest_after-rest.ensures, length-drop (c.in-Some.end + 1) c.loop-end.rest.now) in
      let most : length c.loop-end.rest.now ≤ length c.args.listed.now = c.loop-end.invariant.within in
      let all : length c.rest_after-rest.result.now ≤ length c.args.listed.now = omega (arith, less, most) in
      all;
}

pub returns-then-rest-gt-MOST_DIGITS-clause-found : goal.returns-then-rest-gt-MOST_DIGITS-clause-found
returns-then-rest-gt-MOST_DIGITS-clause-found c = λ lengths published torn are.
    let last = no_next published c.loop-end.length torn c.loop-end.rest.now (c.loop-end.invariant.still lengths published torn are)
    (sym c.line_end.ensures.place ∙ c.in_default.is) in
    absurd (omega (arith, are.short, ap length last.1, c.if-rest-gt-MOST_DIGITS.true))

pub returns-clause-found : goal.returns-clause-found
returns-clause-found c = λ lengths published torn are.
    let last = no_next published c.loop-end.length torn c.loop-end.rest.now (c.loop-end.invariant.still lengths published torn are)
    (sym c.line_end.ensures.place ∙ c.in_default.is) in
    all_listed published c.loop-end.length lengths torn c.args.listed.now c.loop-end.rest.now last.0 last.1 are.lines
