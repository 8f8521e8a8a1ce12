mod AddedFacts
mod TapeFacts
