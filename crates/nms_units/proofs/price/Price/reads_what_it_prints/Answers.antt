-- `Price::reads_what_it_prints`: all that it promises, by `price_reading-price_text`.
use Rattle.nms_units.proofs.PriceLemmas.{price_reading-price_text}
use Rattle.nms_units.proofs.price.Price.reads_what_it_prints.Goals as goal

pub returns : goal.returns
returns c = price_reading-price_text
