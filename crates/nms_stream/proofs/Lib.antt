mod ListFacts
mod QuotedFacts
mod LineFacts
mod FollowFacts
mod PieceFacts
mod ReplayFacts
