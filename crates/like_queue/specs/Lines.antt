-- The lines of a run.
use Rattle.std.specs.Prelude.{◌≡◌, ◌≤◌, List, length, map, All}
use Rattle.like_limits.specs.Limits.{max_submitters}
use Rattle.like_requests.specs.Types.{Request}
use Rattle.like_queue.specs.{Line.LineId, Line.Sender, Line.Taker, declared.lines.Lines.Lines}

-- the pass or end of a line that sends, when nothing was sent
abbrev pub new_sender : LineId → Sender
new_sender line = record { line = line; sent = 0 }

-- the pass or end of a line that takes, when nothing was taken
abbrev pub new_taker : LineId → Taker
new_taker line = record { line = line; taken = 0 }

-- both
abbrev pub new_ends : LineId → Sender × Taker
new_ends line = (new_sender line, new_taker line)

-- lines of these plans, with the passes of their ends, through which nothing went
pub record AreLines (plans : List (List Request)) (l : Lines) : Type 0 where
  pub plans_are : map (λ line. line.plan) l.lines.items ≡ plans
  pub passes : l.passes.items ≡ map new_ends l.lines.items

-- the ends of the submitters; none has sent anything
pub record AreNewEnds (ends : List Sender) : Type 0 where
  pub few : length ends ≤ max_submitters
  pub new : All (λ end. end.sent ≡ 0) ends
