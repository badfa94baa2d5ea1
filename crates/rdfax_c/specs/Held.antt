-- What is owned at a handle's pointer.
use Rattle.std.specs.Prelude.{Option, Some, None}
use Rattle.std.specs.Box.Ownership.{box_owns}
use Rattle.std.specs.contracts.alloc.Global as global
use Rattle.std.specs.contracts.impls.GlobalAllocator.TheImpl.{ghosts}
use Rattle.rx_session.specs.contracts.sessions.Session.{the_row}
use Rattle.rx_session.specs.declared.sessions.State.{State}
use base.Fml.{Fml, ftrue, fex}
use denote.RawPtr.{Ptr}

-- a session in a block of its own, which may be freed through this allocator
abbrev pub boxed : Ptr → State → global.the_row.Denot → Fml
boxed p session heap = box_owns (ghosts.dealloc_token heap) the_row p session

-- nothing, or a session in a block of its own
abbrev pub held : Ptr → Option State → Fml
held p None = ftrue
held p (Some session) = fex global.the_row.Denot (boxed p session)
