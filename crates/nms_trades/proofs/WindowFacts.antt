-- A time is within the times around it: earlier and later ones of the same day.
use Rattle.std.proofs.Common.{◌≡◌, ◌≤◌, ◌<◌, ◌+◌, ◌-◌, ◌*◌, ◌/◌, ◌%◌, ◌&&◌, ℕ, Bool, List, true, false, nat_lt, inl, inr, arith}
use Rattle.std.specs.Prelude.{if◌then◌else◌}
use Rattle.std.proofs.lemmas.Bool.{and_parts, cases_lt, ltb-true}
use Rattle.nms_times.specs.Clock.{clock_at, earlier_by, is_clock, later_by, since_midnight}
use Rattle.nms_times.specs.Times.{version_at, version_before}
use Rattle.nms_times.specs.declared.rising.Rising.{Rising}
use Rattle.nms_trades.specs.When.{IsWithin, timed, version_by}
use Rattle.nms_trades.specs.declared.clock.Clock.{Clock}
use Rattle.nms_trades.specs.declared.stretch.Stretch.{Stretch}

-- hours, minutes, seconds and nanoseconds as one number order times as the nanoseconds since midnight do
parts_order : (h m s n h' m' s' n' : ℕ) → m < 60 → s < 60 → n < 1000000000 → m' < 60 → s' < 60 → n' < 1000000000
    → h * 3600000000000 + m * 60000000000 + s * 1000000000 + n ≤ h' * 3600000000000 + m' * 60000000000 + s' * 1000000000 + n'
    → h * 10000000000000 + m * 100000000000 + s * 1000000000 + n ≤ h' * 10000000000000 + m' * 100000000000 + s' * 1000000000 + n'
parts_order h m s n h' m' s' n' lm ls ln lm' ls' ln' within = elim (cases_lt h h') [
  | inl less ↦ omega (arith, less, lm, ls, ln)
  | inr more ↦
      let hours : h ≡ h' = omega (arith, more, within, lm, ls, ln, lm', ls', ln') in
      elim (cases_lt m m') [
        | inl less ↦ omega (arith, hours, less, ls, ln)
        | inr higher ↦
            let minutes : m ≡ m' = omega (arith, hours, higher, within, ls, ln, ls', ln') in
            omega (arith, hours, minutes, within, ln, ln')
      ]
]

-- the parts of a number of nanoseconds since midnight
nanoseconds_are : (k : ℕ)
    → k ≡ k / 3600000000000 * 3600000000000 + k / 60000000000 % 60 * 60000000000 + k / 1000000000 % 60 * 1000000000 + k % 1000000000
nanoseconds_are k = omega arith

-- the parts of a time
time_is : (t : ℕ)
    → t ≡ t / 10000000000000 * 10000000000000 + t / 100000000000 % 100 * 100000000000 + t / 1000000000 % 100 * 1000000000 + t % 1000000000
time_is t = omega arith

-- the hours, minutes and seconds of a time
clock_parts : (t : ℕ) → is_clock t ≡ true
    → (t / 10000000000000 < 24) × (t / 100000000000 % 100 < 60) × (t / 1000000000 % 100 < 60)
clock_parts t valid =
    let hours = nat_lt (t / 10000000000000) 24 in
    let minutes = nat_lt (t / 100000000000 % 100) 60 in
    let seconds = nat_lt (t / 1000000000 % 100) 60 in
    let both = and_parts (hours && minutes) seconds valid in
    let first = and_parts hours minutes both.0 in
    (ltb-true (t / 10000000000000) 24 first.0, ltb-true (t / 100000000000 % 100) 60 first.1, ltb-true (t / 1000000000 % 100) 60 both.1)

-- fewer nanoseconds are an earlier time
fewer : (k t : ℕ) → is_clock t ≡ true → k ≤ since_midnight t → clock_at k ≤ t
fewer k t valid within =
    let parts = clock_parts t valid in
    let order = parts_order (k / 3600000000000) (k / 60000000000 % 60) (k / 1000000000 % 60) (k % 1000000000)
    (t / 10000000000000) (t / 100000000000 % 100) (t / 1000000000 % 100) (t % 1000000000)
    (omega arith) (omega arith) (omega arith) parts.1 parts.2 (omega arith) (omega (arith, nanoseconds_are k, within)) in
    omega (arith, order, time_is t)

-- more are a later one
more : (k t : ℕ) → is_clock t ≡ true → since_midnight t ≤ k → t ≤ clock_at k
more k t valid within =
    let parts = clock_parts t valid in
    let order = parts_order (t / 10000000000000) (t / 100000000000 % 100) (t / 1000000000 % 100) (t % 1000000000)
    (k / 3600000000000) (k / 60000000000 % 60) (k / 1000000000 % 60) (k % 1000000000)
    parts.1 parts.2 (omega arith) (omega arith) (omega arith) (omega arith) (omega (arith, nanoseconds_are k, within)) in
    omega (arith, order, time_is t)

earlier_low : (w t : ℕ) → is_clock t ≡ true → earlier_by w t ≤ t
earlier_low w t valid = fewer (since_midnight t - w) t valid (omega arith)

later_high : (w t : ℕ) → is_clock t ≡ true → t ≤ later_by w t
later_high w t valid =
    let parts = clock_parts t valid in
    let low : since_midnight t ≤ 86399999999999 = omega (arith, parts.0, parts.1, parts.2) in
    both (nat_lt (since_midnight t + w) 86400000000000) (more (since_midnight t + w) t valid (omega arith)) (more 86399999999999 t
    valid low)
  where
    both : (b : Bool) → t ≤ clock_at (since_midnight t + w) → t ≤ clock_at 86399999999999
        → t ≤ clock_at (if b then since_midnight t + w else 86399999999999)
    both true first last = first
    both false first last = last

-- a later time has no earlier version
rises : (before : Bool) (rising : Rising) (t u : ℕ)
    → (t ≤ u → version_at rising.times.now t ≤ version_at rising.times.now u)
    → (t ≤ u → version_before rising.times.now t ≤ version_before rising.times.now u)
    → t ≤ u → version_by before rising t ≤ version_by before rising u
rises true rising t u at earlier within = omega (arith, earlier within)
rises false rising t u at earlier within = omega (arith, at within)

-- the version at a time lies within its window
pub timed_within : (clock : Clock) (stretch : Stretch) (rising : Rising) (t : ℕ)
    → ((times : List ℕ) (t u : ℕ) → t ≤ u → version_at times t ≤ version_at times u)
    → ((times : List ℕ) (t u : ℕ) → t ≤ u → version_before times t ≤ version_before times u)
    → is_clock t ≡ true
    → IsWithin (timed clock stretch rising t).first (timed clock stretch rising t).version (timed clock stretch rising t).last
timed_within clock stretch rising t at earlier valid =
    let low = earlier_by clock.window t in
    let high = later_by clock.window t in
    let times = rising.times.now in (
      rises clock.before rising low t (at times low t) (earlier times low t) (earlier_low clock.window t valid),
      rises clock.before rising t high (at times t high) (earlier times t high) (later_high clock.window t valid),
    )
