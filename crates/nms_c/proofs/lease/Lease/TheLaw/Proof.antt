-- `TheLaw`: a `&` to a share reads as long as it lasts, by `of_Lends`. Assumes `Logic`.
use denote.RattleType.{RattleType}
use denote.Param.Laws.{Laws}
use denote.Param.Shared.{copy_shared}
use denote.Struct.Field.{RawPtr-field}
use denote.Struct.Laws.{RawPtr-copy}
use denote.Struct.Lending.{of_Lends, lent_at, lent_at_shr_laws}
use Rattle.nms_c.specs.contracts.lease.Lease as C
use Rattle.nms_c.proofs.lease.Lease.TheLaw.Statement.{statement}
use Rattle.left_right.proofs.PartSteps.{lent_laws, Lends-part}

pub shares : (T : RattleType) (L : Laws T) → statement T L
shares T L = of_Lends (C.struct T) (C.the_codes T.Denot T.coded) (C.the_heap T) (C.the_lent T)
    (λ d p. lent_laws (lent_at T d.ptr d.value) (lent_at_shr_laws T L.shr_laws d.ptr d.value) d.round) (copy_shared RawPtr-field RawPtr-copy, tt)
    (λ M 𝓤 𝓛 d p. Lends-part (lent_at T d.ptr d.value) (lent_at_shr_laws T L.shr_laws d.ptr d.value) 𝓛 d.round d.count (C.the_row T).lives)
