-- The operations by the names of upstream's constructors.
use Rattle.std.specs.Prelude.{ℕ, Bool, true, false, cond, List, [], ◌∷◌, eqb, length, drop, Option, Some, None}
use Rattle.disklayout.specs.declared.Location.{Location}
use Rattle.blockdisk.specs.declared.DiskOp.{DiskOp}
use Rattle.blockdisk.specs.declared.DiskOp.TheVariants.{NoDiskOp, ReqReadIndirectionTableOp, ReqReadNodeOp, ReqWriteIndirectionTableOp}
use Rattle.blockdisk.specs.declared.DiskOp.TheVariants.{ReqWriteNodeOp, RespReadIndirectionTableOp, RespReadNodeOp}
use Rattle.blockdisk.specs.declared.DiskOp.TheVariants.{RespWriteIndirectionTableOp, RespWriteNodeOp}
use Rattle.blockdisk.specs.declared.Brought.TheVariants.{Nothing}
use Rattle.blockcache.specs.declared.VersionOp.{VersionOp}
use Rattle.blockcache.specs.declared.VersionOp.TheVariants.{AdvanceOp, CleanUpOp, CrashOp, FreezeOp, JournalInternalOp, PopSyncOp}
use Rattle.blockcache.specs.declared.VersionOp.TheVariants.{PushSyncOp, SendFrozenLocOp, SendPersistentLocOp, StatesInternalOp}
use Rattle.words.specs.Bytes.{same_of}
use Rattle.words.specs.Cut.{word_of}

-- NoOp, Op
unfoldable pub uiop_of : List ℕ → Option Bool
uiop_of w =
    cond (same_of w (78 ∷ 111 ∷ 79 ∷ 112 ∷ [])) (Some true)
    (cond (same_of w (79 ∷ 112 ∷ [])) (Some false)
    None)

-- StatesInternalOp, JournalInternalOp, FreezeOp, CleanUpOp, PushSyncOp, PopSyncOp, CrashOp
unfoldable pub bare_version_of : List ℕ → Option VersionOp
bare_version_of w =
    cond (same_of w (83 ∷ 116 ∷ 97 ∷ 116 ∷ 101 ∷ 115 ∷ 73 ∷ 110 ∷ 116 ∷ 101 ∷ 114 ∷ 110 ∷ 97 ∷ 108 ∷ 79 ∷ 112 ∷ []))
    (Some StatesInternalOp)
    (cond (same_of w (74 ∷ 111 ∷ 117 ∷ 114 ∷ 110 ∷ 97 ∷ 108 ∷ 73 ∷ 110 ∷ 116 ∷ 101 ∷ 114 ∷ 110 ∷ 97 ∷ 108 ∷ 79 ∷ 112 ∷ []))
    (Some JournalInternalOp)
    (cond (same_of w (70 ∷ 114 ∷ 101 ∷ 101 ∷ 122 ∷ 101 ∷ 79 ∷ 112 ∷ [])) (Some FreezeOp)
    (cond (same_of w (67 ∷ 108 ∷ 101 ∷ 97 ∷ 110 ∷ 85 ∷ 112 ∷ 79 ∷ 112 ∷ [])) (Some CleanUpOp)
    (cond (same_of w (80 ∷ 117 ∷ 115 ∷ 104 ∷ 83 ∷ 121 ∷ 110 ∷ 99 ∷ 79 ∷ 112 ∷ [])) (Some PushSyncOp)
    (cond (same_of w (80 ∷ 111 ∷ 112 ∷ 83 ∷ 121 ∷ 110 ∷ 99 ∷ 79 ∷ 112 ∷ [])) (Some PopSyncOp)
    (cond (same_of w (67 ∷ 114 ∷ 97 ∷ 115 ∷ 104 ∷ 79 ∷ 112 ∷ [])) (Some CrashOp)
    None))))))

-- SendPersistentLocOp, SendFrozenLocOp, AdvanceOp, with what they carry; or one that carries nothing
unfoldable pub version_of : List ℕ → Location → Bool → Option VersionOp
version_of w loc noop =
    cond (same_of w (83 ∷ 101 ∷ 110 ∷ 100 ∷ 80 ∷ 101 ∷ 114 ∷ 115 ∷ 105 ∷ 115 ∷ 116 ∷ 101 ∷ 110 ∷ 116 ∷ 76 ∷ 111 ∷ 99 ∷ 79 ∷ 112 ∷ []))
    (Some (SendPersistentLocOp loc))
    (cond (same_of w (83 ∷ 101 ∷ 110 ∷ 100 ∷ 70 ∷ 114 ∷ 111 ∷ 122 ∷ 101 ∷ 110 ∷ 76 ∷ 111 ∷ 99 ∷ 79 ∷ 112 ∷ []))
    (Some (SendFrozenLocOp loc))
    (cond (same_of w (65 ∷ 100 ∷ 118 ∷ 97 ∷ 110 ∷ 99 ∷ 101 ∷ 79 ∷ 112 ∷ [])) (Some (AdvanceOp noop))
    (bare_version_of w)))

-- RespReadIndirectionTableOp, RespReadNodeOp, RespWriteIndirectionTableOp, RespWriteNodeOp, NoDiskOp; what a read answer brings is known when the call is made
unfoldable pub answer_of : List ℕ → ℕ → Option DiskOp
answer_of w id =
    cond (same_of w (82 ∷ 101 ∷ 115 ∷ 112 ∷ 82 ∷ 101 ∷ 97 ∷ 100 ∷ 73 ∷ 110 ∷ 100 ∷ 105 ∷ 114 ∷ 101 ∷ 99 ∷ 116 ∷ 105 ∷ 111 ∷ 110 ∷ 84 ∷ 97 ∷ 98 ∷ 108 ∷ 101 ∷ 79 ∷ 112 ∷ []))
    (Some (RespReadIndirectionTableOp id Nothing))
    (cond (same_of w (82 ∷ 101 ∷ 115 ∷ 112 ∷ 82 ∷ 101 ∷ 97 ∷ 100 ∷ 78 ∷ 111 ∷ 100 ∷ 101 ∷ 79 ∷ 112 ∷ []))
    (Some (RespReadNodeOp id Nothing))
    (cond (same_of w (82 ∷ 101 ∷ 115 ∷ 112 ∷ 87 ∷ 114 ∷ 105 ∷ 116 ∷ 101 ∷ 73 ∷ 110 ∷ 100 ∷ 105 ∷ 114 ∷ 101 ∷ 99 ∷ 116 ∷ 105 ∷ 111 ∷ 110 ∷ 84 ∷ 97 ∷ 98 ∷ 108 ∷ 101 ∷ 79 ∷ 112 ∷ []))
    (Some (RespWriteIndirectionTableOp id))
    (cond (same_of w (82 ∷ 101 ∷ 115 ∷ 112 ∷ 87 ∷ 114 ∷ 105 ∷ 116 ∷ 101 ∷ 78 ∷ 111 ∷ 100 ∷ 101 ∷ 79 ∷ 112 ∷ []))
    (Some (RespWriteNodeOp id))
    (cond (same_of w (78 ∷ 111 ∷ 68 ∷ 105 ∷ 115 ∷ 107 ∷ 79 ∷ 112 ∷ [])) (Some NoDiskOp)
    None))))

-- ReqReadIndirectionTableOp, ReqReadNodeOp, ReqWriteIndirectionTableOp, ReqWriteNodeOp, with id and location; or an answer
unfoldable pub disk_of : List ℕ → ℕ → Location → Option DiskOp
disk_of w id loc =
    cond (same_of w (82 ∷ 101 ∷ 113 ∷ 82 ∷ 101 ∷ 97 ∷ 100 ∷ 73 ∷ 110 ∷ 100 ∷ 105 ∷ 114 ∷ 101 ∷ 99 ∷ 116 ∷ 105 ∷ 111 ∷ 110 ∷ 84 ∷ 97 ∷ 98 ∷ 108 ∷ 101 ∷ 79 ∷ 112 ∷ []))
    (Some (ReqReadIndirectionTableOp id loc))
    (cond (same_of w (82 ∷ 101 ∷ 113 ∷ 82 ∷ 101 ∷ 97 ∷ 100 ∷ 78 ∷ 111 ∷ 100 ∷ 101 ∷ 79 ∷ 112 ∷ [])) (Some (ReqReadNodeOp id loc))
    (cond (same_of w (82 ∷ 101 ∷ 113 ∷ 87 ∷ 114 ∷ 105 ∷ 116 ∷ 101 ∷ 73 ∷ 110 ∷ 100 ∷ 105 ∷ 114 ∷ 101 ∷ 99 ∷ 116 ∷ 105 ∷ 111 ∷ 110 ∷ 84 ∷ 97 ∷ 98 ∷ 108 ∷ 101 ∷ 79 ∷ 112 ∷ []))
    (Some (ReqWriteIndirectionTableOp id loc))
    (cond (same_of w (82 ∷ 101 ∷ 113 ∷ 87 ∷ 114 ∷ 105 ∷ 116 ∷ 101 ∷ 78 ∷ 111 ∷ 100 ∷ 101 ∷ 79 ∷ 112 ∷ []))
    (Some (ReqWriteNodeOp id loc))
    (answer_of w id))))

-- uiop=
unfoldable pub uiop_word : List ℕ → Option Bool
uiop_word r =
    cond (eqb (length (word_of r (117 ∷ 105 ∷ 111 ∷ 112 ∷ 61 ∷ []))) 0) (Some false)
    (uiop_of (drop 5 (word_of r (117 ∷ 105 ∷ 111 ∷ 112 ∷ 61 ∷ []))))

-- v=
unfoldable pub version_word : List ℕ → Location → Bool → Option VersionOp
version_word r loc noop =
    cond (eqb (length (word_of r (118 ∷ 61 ∷ []))) 0) (Some StatesInternalOp)
    (version_of (drop 2 (word_of r (118 ∷ 61 ∷ []))) loc noop)

-- d=
unfoldable pub disk_word : List ℕ → ℕ → Location → Option DiskOp
disk_word r id loc =
    cond (eqb (length (word_of r (100 ∷ 61 ∷ []))) 0) (Some NoDiskOp) (disk_of (drop 2 (word_of r (100 ∷ 61 ∷ []))) id loc)
