-- What a handle owns may go to another thread if what it holds may.
use mir.Raw.{raw}
use denote.Exit.{Kept, hidden, under}
use denote.Memory.{lone}
use denote.Param.Send.{AllSend, IsSend, Quiet, owning_send, struct_send}
use denote.RattleType.{RattleType}
use denote.RawPtr.{Ptr}
use denote.Struct.Owning.{Owning, fields, row, shape, to}
use denote.Struct.Struct.{exits_of}
use base.Shift.{Keyless}
use Rattle.std.specs.Prelude.{◌≡◌, Option, Some, None}
use Rattle.std.proofs.Common.{subst, sym}
use Rattle.std.proofs.Crossing as heap
use Rattle.std_alloc.proofs.SendSync.{lies, quiet}
use Rattle.like_c.specs.Handle.{handle_owns, the_alloc}

pub keyless : (R : RattleType) → IsSend R → (p : Ptr) (home : Option R.Denot) → Keyless (handle_owns R p home)
keyless R sends p (Some x) = (lies R sends p x, heap.frees.frees the_alloc (raw (lone R.mir)) p)
keyless R sends p None = tt

-- so may the handle, which leaves what its fields do
pub handle_sends : (T : Owning)
    → AllSend (fields T)
    → ((d : T.D) → Keyless (T.heap d))
    → ((k : Kept) → T.exit k ≡ hidden (under (to T) (exits_of k (fields T))))
    → IsSend (row T)
handle_sends T all keys exits =
    owning_send T all keys
    (λ k. subst Quiet (sym (exits k)) (quiet (to T) (exits_of k (fields T)) ((struct_send (shape T) all).leaving k)))
