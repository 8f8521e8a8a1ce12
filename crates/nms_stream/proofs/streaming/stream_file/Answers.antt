-- `stream_file`: clause `cut`, by `file_cut`.
use Rattle.std.proofs.Common.{ap}
use Rattle.nms_quote.specs.Roster.{Listing}
use Rattle.nms_stream.specs.Stream.{stream_text}
use Rattle.nms_stream.proofs.PieceFacts.{file_cut}
use Rattle.nms_stream.proofs.streaming.stream_file.Goals as goal

pub returns-in-Ok-clause-cut : goal.returns-in-Ok-clause-cut
returns-in-Ok-clause-cut g c =
    file_cut c.stream.result c.args.setup.now (g.R.Read.remaining c.args.source) c.args.asked (g.W.Write.contents c.args.writer.now)
    (g.W.Write.contents c.stream.new.writer) c.in-Ok.tape.changes.items _ c.in-Ok.ensures.file
    (ap (λ (roster : Listing). stream_text roster c.args.asked c.in-Ok.tape.changes.items) c.in-Ok.ensures.roster) c.stream.ensures.cut
