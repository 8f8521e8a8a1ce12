-- `timed`: clause `window`, by `timed_within`.
use Rattle.std.proofs.Common.{◌≡◌, true, ap, ◌∙◌, arith, rules}
use Rattle.nms_times.specs.Clock.{earlier_by, is_clock, later_by}
use Rattle.nms_trades.specs.When.{version_by}
use Rattle.nms_trades.proofs.WindowFacts.{timed_within}
use Rattle.nms_trades.proofs.clock.Clock.timed.Goals as goal

pub returns-clause-window : goal.returns-clause-window
returns-clause-window c =
    let clock = c.args.self.now in
    let rising = c.args.rising.now in
    let time = c.args.time in
    let valid : is_clock time ≡ true = search rules in
    let within = timed_within clock c.args.stretch rising time c.versions_rise_with_time.ensures.at
    c.versions_rise_with_time.ensures.before valid in
    let own : c.version_by.result ≡ version_by clock.before rising time = c.version_by.ensures.version in
    let first : c.version_by-2.result ≡ version_by clock.before rising (earlier_by clock.window time) =
    c.version_by-2.ensures.version ∙ ap (version_by clock.before rising) c.earlier_by.ensures in
    let last : c.version_by-3.result ≡ version_by clock.before rising (later_by clock.window time) =
    c.version_by-3.ensures.version ∙ ap (version_by clock.before rising) c.later_by.ensures in
    (omega (arith, within.0, own, first), omega (arith, within.1, own, last))
