mod SentFacts
mod ReadFacts
mod WriteFacts
