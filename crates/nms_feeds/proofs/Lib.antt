mod LineLemmas
mod SentFacts
