-- Round lots (17 CFR 242.600, "bid or offer" and "round lot").
use Rattle.std.specs.Prelude.{ℕ, ◌*◌, ◌/◌, nat_le, if◌then◌else◌}

-- the displayed size: shares rounded down to whole round lots
abbrev pub displayed_size : ℕ → ℕ → ℕ
displayed_size lot shares = shares / lot * lot

-- the factor that replaces a division by a lot
abbrev pub reciprocal_of : ℕ → ℕ
reciprocal_of lot = 18446744073709551615 / lot

-- the round lot by the average closing price, in 1/10,000 dollar: 100 shares at 250 dollars or less, 40 up to
-- 1,000 dollars, 10 up to 10,000 dollars, 1 above. A price between two tiers belongs to the higher-priced one
abbrev pub average_lot : ℕ → ℕ
average_lot average =
    if nat_le average 2500000 then 100 else
    if nat_le average 10000000 then 40 else
    if nat_le average 100000000 then 10 else 1
