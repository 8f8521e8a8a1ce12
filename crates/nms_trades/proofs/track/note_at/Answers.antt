-- `note_at`: the track at the place is noted, by `noted_there`, and each other one stays.
use Rattle.std.proofs.Common.{sym}
use Rattle.nms_board.proofs.Offered.{slice_get-set_other}
use Rattle.nms_trades.proofs.TrackFacts.{noted_there}
use Rattle.nms_trades.proofs.track.note_at.Goals as goal

pub returns-clause-own : goal.returns-clause-own
returns-clause-own c =
    noted_there c.note.result c.args.version c.args.limits c.args.tracks.now.items c.args.place c.index_mut.result.now
    (record { marks = c.note.new.marks }) c.requires c.index_mut.ensures.value c.note.ensures

pub returns-clause-others : goal.returns-clause-others
returns-clause-others c = λ other apart.
    slice_get-set_other c.args.tracks.now.items c.args.place other (record { marks = c.note.new.marks }) (λ same. apart (sym same))
