use Rattle.std.proofs.Common.{◌≡◌, ℕ, ◌<◌, length, slice_index}
use Rattle.like_tables.specs.Share.{homes_below, share_of}
use Rattle.like_tables.proofs.share.UserShare.new.Given as goal

abbrev pub invariant-loop-submitter : goal.invariant-loop-submitter
invariant-loop-submitter l = record {
  homes : l.homes ≡ homes_below (share_of l.users l.submitters l.workers l.worker) l.submitter;
  len : length l.homes_below.items ≡ l.submitter;
  below : (n : ℕ) → n < l.submitter
      → slice_index l.homes_below.items n ≡ homes_below (share_of l.users l.submitters l.workers l.worker) n;
}
