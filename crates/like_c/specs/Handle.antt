-- What a handle owns: what a `Box` owns, or nothing, behind the null pointer.
use Rattle.std.specs.Prelude.{Option, Some, None}
use Rattle.std.specs.Global.{Global}
use Rattle.std_alloc.specs.Box.Ownership.{box_owns}
use Rattle.std_heap.specs.contracts.GlobalAllocator.TheImpl.{ghosts}
use base.Fml.{Fml, feq}
use denote.{RattleType.RattleType, RawPtr.Ptr, RawPtr.null_ptr}

-- the allocator of the boxes: all values of its type are the same
abbrev pub the_alloc : Global
the_alloc = record { memory = record { seal = tt } }

abbrev pub handle_owns : (R : RattleType) → Ptr → Option R.Denot → Fml
handle_owns R p (Some x) = box_owns (ghosts.dealloc_token the_alloc) R p x
handle_owns R p None = feq Ptr p null_ptr
