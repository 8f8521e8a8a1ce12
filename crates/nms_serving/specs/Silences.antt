-- When a feed is reported as silent, and when it is reported that it sends again. This product's own rule.
use Rattle.std.specs.Prelude.{ℕ, ◌+◌, Bool, true, false, Option, Some, None, nat_le, if◌then◌else◌}
use Rattle.nms_serving.specs.declared.silence.Notice.{Notice}
use Rattle.nms_serving.specs.declared.silence.Notice.TheVariants.{Silent, SpeaksAgain}
use Rattle.nms_serving.specs.declared.silence.Silence.{Silence}

-- the report at a look: a silence once, when it has lasted that long, and that a feed sends again
abbrev pub notice_of : Silence → ℕ → Bool → ℕ → Option Notice
notice_of silence now true most = if silence.is_reported then Some SpeaksAgain else None
notice_of silence now false most =
    if silence.is_reported then None else (if nat_le (silence.since + most) now then Some Silent else None)

-- the state of the silence after a look
abbrev pub after_look : Silence → ℕ → Bool → ℕ → Silence
after_look silence now true most = record { since = now; is_reported = false }
after_look silence now false most =
    record { since = silence.since; is_reported = if silence.is_reported then true else nat_le (silence.since + most) now }
