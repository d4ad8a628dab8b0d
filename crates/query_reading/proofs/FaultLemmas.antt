-- Of which part's fault a reading's comes.
use Rattle.std.proofs.Common.{◌≡◌, ℕ, Result, Err, rules, refl, subst, sym}
use Rattle.std.specs.Result.{IsErrAnd}
use Rattle.store_core.specs.declared.fault.ReadFault.{ReadFault}
use Rattle.store_core.specs.declared.fault.ReadFault.TheVariants as of_part
use Rattle.query_reading.specs.declared.reading.ReadingFault.{ReadingFault}
use Rattle.query_reading.specs.declared.reading.ReadingFault.TheVariants as of_all
use Rattle.query_reading.specs.Reading.{fault_of}

damaged_alone : (fault : ReadFault) → of_all.Damaged ≡ fault_of fault → (id : ℕ) × (fault ≡ of_part.Damaged id)
damaged_alone of_part.Memory is = absurd (search rules)
damaged_alone (of_part.Disk count) is = absurd (search rules)
damaged_alone (of_part.Damaged id) is = (id, refl)

disk_alone : (fault : ReadFault) (count : ℕ) → of_all.Disk count ≡ fault_of fault → fault ≡ of_part.Disk count
disk_alone of_part.Memory count is = absurd (search rules)
disk_alone (of_part.Disk told) count is = cc
disk_alone (of_part.Damaged id) count is = absurd (search rules)

module _ {T : Type 0} (result : Result T ReadingFault) (fault : ReadFault) (comes : IsErrAnd result (λ reading. reading ≡ fault_of fault)) where
  pub damaged_of : result ≡ Err of_all.Damaged → (id : ℕ) × (fault ≡ of_part.Damaged id)
  damaged_of is = damaged_alone fault (subst (λ (r : Result T ReadingFault). IsErrAnd r (λ reading. reading ≡ fault_of fault)) is comes)

  pub disk_of : (count : ℕ) → result ≡ Err (of_all.Disk count) → fault ≡ of_part.Disk count
  disk_of count is = disk_alone fault count (subst (λ (r : Result T ReadingFault). IsErrAnd r (λ reading. reading ≡ fault_of fault)) is comes)

-- a fault that is handed on as it is
pub same_fault : {T E : Type 0} (result : Result T E) (fault told : E) → IsErrAnd result (λ one. one ≡ fault) → result ≡ Err told → fault ≡ told
same_fault {T} {E} result fault told comes is = sym (subst (λ (r : Result T E). IsErrAnd r (λ one. one ≡ fault)) is comes)
