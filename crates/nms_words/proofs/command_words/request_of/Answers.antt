-- `request_of`: all that it promises, by `request_given`.
use Rattle.std.proofs.Common.{rules}
use Rattle.clap.specs.Words.{found_of, rows_of}
use Rattle.nms_words.proofs.OwnGiven.{request_given}
use Rattle.nms_words.proofs.command_words.request_of.Goals as goal

pub returns : goal.returns
returns c = request_given (rows_of (found_of c.args.matches.now)) c.args.command c.words.result.now _ c.requires c.words.ensures.own
    (search rules)
