mod ChangeLines
mod KeeperFacts
mod LeftFacts
mod LineFacts
mod OpeningFacts
mod ResumeFacts
