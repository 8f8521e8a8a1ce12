-- The code and the exit status of each fault of a run, and the fault that a stream's fault is. This product's own rule.
use Rattle.std.specs.Prelude.{ℕ, List, codes}
use Rattle.nms_answers.specs.declared.answer_fault.AnswerFault.{AnswerFault}
use Rattle.nms_answers.specs.declared.answer_fault.AnswerFault.TheVariants as answer
use Rattle.nms_feeds.specs.declared.feed_fault.FeedFault.{FeedFault}
use Rattle.nms_feeds.specs.declared.feed_fault.FeedFault.TheVariants as feeds
use Rattle.nms_quote.specs.declared.feed.Feed.{Feed}
use Rattle.nms_serving.specs.declared.serve_fault.ServeFault.{ServeFault}
use Rattle.nms_serving.specs.declared.serve_fault.ServeFault.TheVariants as fault
use Rattle.nms_serving.specs.declared.stream.Stream.TheVariants as stream

abbrev pub code_of : ServeFault → List ℕ
code_of (fault.NotOpened s) = codes "E1"
code_of (fault.NotRead s) = codes "E1"
code_of (fault.NotWritten s) = codes "E2"
code_of (fault.NotEmpty s) = codes "E2"
code_of (fault.TooLong s) = codes "E3"
code_of fault.NoMemory = codes "E4"
code_of (fault.Refused feed number why) = codes "E5"
code_of fault.NotBegun = codes "E6"
code_of fault.TapeFull = codes "E7"
code_of fault.TooManyEpochs = codes "E7"
code_of (fault.NoReading client) = codes "E8"

-- 1 for a stream, 5 for memory, 6 for records, 7 for the board
abbrev pub status_of : ServeFault → ℕ
status_of (fault.NotOpened s) = 1
status_of (fault.NotRead s) = 1
status_of (fault.NotWritten s) = 1
status_of (fault.NotEmpty s) = 1
status_of (fault.TooLong s) = 6
status_of fault.NoMemory = 5
status_of (fault.Refused feed number why) = 6
status_of fault.NotBegun = 7
status_of fault.TapeFull = 7
status_of fault.TooManyEpochs = 7
status_of (fault.NoReading client) = 7

-- a feed's fault
abbrev pub of_feed : Feed → FeedFault → ServeFault
of_feed feed feeds.Failed = fault.NotRead (stream.Feed feed)
of_feed feed feeds.TooLong = fault.TooLong (stream.Feed feed)
of_feed feed feeds.NoMemory = fault.NoMemory
of_feed feed (feeds.Refused number why) = fault.Refused feed number why

-- that of a client, counted from 1
abbrev pub of_client : ℕ → AnswerFault → ServeFault
of_client client answer.ReadFault = fault.NotRead (stream.Requests client)
of_client client answer.WriteFault = fault.NotWritten (stream.Answers client)
of_client client answer.TooLong = fault.TooLong (stream.Requests client)
of_client client answer.NoMemory = fault.NoMemory
of_client client answer.NoReading = fault.NoReading client
