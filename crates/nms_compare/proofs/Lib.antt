mod CountFacts
mod StandingFacts
mod QuotedFacts
mod TextFacts
mod SumFacts
