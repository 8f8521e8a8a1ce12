-- `resume`: the run's house has the sizes of its setup's roster.
use Rattle.nms_quote.specs.Roster.{sizes_of}
use Rattle.nms_serving.proofs.serving.resume.Given as goal

abbrev pub ghosts-serve_board : goal.ghosts-serve_board
ghosts-serve_board g a = record { sizes = sizes_of a.means.now.run.now.setup.now.roster }
