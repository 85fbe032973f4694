use Rattle.std.proofs.Common.{◌≡◌, length}
use Rattle.like_crew.proofs.servers.Opened.{OpenBelow}
use Rattle.like_crew.proofs.crew.serving.Serving+ListInbox.open_all.Given as goal

abbrev pub invariant-loop-place : goal.invariant-loop-place
invariant-loop-place l = record {
  places : l.places ≡ length l.initial.self.inboxes.items;
  len : length l.self.inboxes.items ≡ length l.initial.self.inboxes.items;
  work : l.self.work ≡ l.initial.self.work;
  workers : l.self.workers ≡ l.initial.self.workers;
  below : OpenBelow l.initial.self.inboxes.items l.self.inboxes.items l.place;
}
