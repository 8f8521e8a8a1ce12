-- The relation of the two best prices (17 CFR 242.610(d) as adopted in 2005, locking and crossing).
use Rattle.std.specs.Prelude.{◌==◌, nat_lt, Option, Some, None, if◌then◌else◌}
use Rattle.nms_board.specs.declared.row.Row.{Row}
use Rattle.nms_nbbo.specs.declared.market_kind.Market.{Market}
use Rattle.nms_nbbo.specs.declared.market_kind.Market.TheVariants as market

-- locked if the best bid's price is the best offer's, crossed if it is above
abbrev pub market_of : Option Row → Option Row → Market
market_of None None = market.Empty
market_of None (Some offer) = market.OneSided
market_of (Some bid) None = market.OneSided
market_of (Some bid) (Some offer) =
    if nat_lt bid.price offer.price then market.Normal
    else (if bid.price == offer.price then market.Locked else market.Crossed)
