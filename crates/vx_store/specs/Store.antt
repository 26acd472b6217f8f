-- What each call does to the files of a store. Where a store tells its files it does so after each call, and
-- where it doesn't, nothing is said of them.
use Rattle.std.specs.Prelude.{◌≡◌, ◌⊎◌, ◌≤◌, ◌<◌, ℕ, ◌+◌, List, [], ◌++◌, length, take, drop, ⊤, Option, Some, None, true, Result, Ok, Err, IsErrOf}
use Rattle.vx_base.specs.Causes.{HasCause}
use Rattle.vx_store.specs.Files.{Files, bytes_at, SetsOnly}
use Rattle.vx_store.specs.Script.{counted}
use Rattle.vx_store.specs.Views.{StoreView}
use Rattle.vx_store.specs.declared.error.StoreError.{StoreError}
use Rattle.vx_store.specs.declared.error.StoreError.TheVariants.{Failed, NoMemory}

-- a relation of two tellings: of told files it is the given one, and a telling never begins or ends
abbrev pub Told : (Files → Files → Type 0) → Option Files → Option Files → Type 0
Told Relates (Some before) (Some after) = Relates before after
Told Relates None None = ⊤
Told Relates (Some before) None = ⊥
Told Relates None (Some after) = ⊥

-- what is told of the files
abbrev pub Tells : (Files → Type 0) → Option Files → Type 0
Tells Holds (Some files) = Holds files
Tells Holds None = ⊤

-- the file of this number is there
pub record HasFile (n : ℕ) (files : Files) : Type 0 where
  pub bytes : List ℕ
  pub is : bytes_at files n ≡ Some bytes

abbrev pub IsThere : Option Files → ℕ → Type 0
IsThere told n = Tells (HasFile n) told

-- the file of this number isn't there
abbrev pub IsFree : Option Files → ℕ → Type 0
IsFree told n = Tells (λ files. bytes_at files n ≡ None) told

-- all files are as they were
abbrev pub Same : Files → Files → Type 0
Same before after = (n : ℕ) → bytes_at after n ≡ bytes_at before n

abbrev pub Stays : Option Files → Option Files → Type 0
Stays before after = Told Same before after

-- an empty file of this number came, where none was
abbrev pub Creates : Option Files → Option Files → ℕ → Type 0
Creates before after n = IsFree before n × Told (λ old new. SetsOnly old new n (Some [])) before after

-- the bytes now stand at the end of the file, from this place on
pub record AppendsAt (n : ℕ) (bytes : List ℕ) (at : ℕ) (before after : Files) : Type 0 where
  pub old : List ℕ
  pub was : bytes_at before n ≡ Some old
  pub place : at ≡ length old
  pub sets : SetsOnly before after n (Some (old ++ bytes))

abbrev pub Appends : Option Files → Option Files → ℕ → List ℕ → ℕ → Type 0
Appends before after n bytes at = Told (AppendsAt n bytes at) before after

-- the first so many of the bytes, maybe none or all, now stand at the end of the file
pub record AppendsFront (n : ℕ) (bytes : List ℕ) (before after : Files) : Type 0 where
  pub old : List ℕ
  pub was : bytes_at before n ≡ Some old
  pub count : ℕ
  pub within : count ≤ length bytes
  pub sets : SetsOnly before after n (Some (old ++ take count bytes))

abbrev pub AppendsSome : Option Files → Option Files → ℕ → List ℕ → Type 0
AppendsSome before after n bytes = Told (AppendsFront n bytes) before after

-- so many bytes stand in the file from this place on
pub record HasBytes (n at count : ℕ) (read : List ℕ) (files : Files) : Type 0 where
  pub bytes : List ℕ
  pub is : bytes_at files n ≡ Some bytes
  pub within : at + count ≤ length bytes
  pub read_are : read ≡ take count (drop at bytes)

abbrev pub Reads : Option Files → ℕ → ℕ → ℕ → List ℕ → Type 0
Reads told n at count read = Tells (HasBytes n at count read) told

-- the file has fewer bytes than that
pub record EndsBefore (n end : ℕ) (files : Files) : Type 0 where
  pub bytes : List ℕ
  pub is : bytes_at files n ≡ Some bytes
  pub past : length bytes < end

abbrev pub IsPastEnd : Option Files → ℕ → ℕ → Type 0
IsPastEnd told n end = Tells (EndsBefore n end) told

-- the file of this number went, and each other is as it was
abbrev pub Removes : Option Files → Option Files → ℕ → Type 0
Removes before after n = Told (λ old new. SetsOnly old new n None) before after

-- what an error leaves: after a failure the file of this number may have gone, and each other is as it was;
-- after want of memory all are
abbrev pub Leaves : ℕ → StoreError → Files → Files → Type 0
Leaves n Failed before after = Same before after ⊎ SetsOnly before after n None
Leaves n NoMemory before after = Same before after

abbrev pub MayRemove : Option Files → Option Files → ℕ → StoreError → Type 0
MayRemove before after n error = Told (Leaves n error) before after

-- the files that may have gone in a removal of the first number with this answer
abbrev pub Goes : {T : Type 0} → ℕ → Result T StoreError → ℕ → Type 0
Goes n (Ok done) k = k ≡ n
Goes n (Err Failed) k = k ≡ n
Goes n (Err NoMemory) k = ⊥

-- each file that was there is there, but for those that `But` names
abbrev pub KeepsThere : (ℕ → Type 0) → Option Files → Option Files → Type 0
KeepsThere But before after = (n : ℕ) → IsThere before n → ¬ But n → IsThere after n

-- a failure adds a fault, and want of memory none
abbrev pub faults_with : ℕ → StoreError → ℕ
faults_with faults Failed = counted faults
faults_with faults NoMemory = faults

abbrev pub faults_after : {T : Type 0} → ℕ → Result T StoreError → ℕ
faults_after faults (Ok value) = faults
faults_after faults (Err e) = faults_with faults e

-- a file more was created, or none
abbrev pub created_after : {T : Type 0} → ℕ → Result T StoreError → ℕ
created_after created (Ok file) = created + 1
created_after created (Err e) = created

-- a store that tells that no call is still to fail tells so afterwards
abbrev pub StaysUnfailing : StoreView → StoreView → Type 0
StaysUnfailing before after = before.unfailing ≡ true → after.unfailing ≡ true

-- a call of such a store didn't fail
abbrev pub FailsOnly : {T : Type 0} → StoreView → Result T StoreError → Type 0 → Type 0
FailsOnly before result Cause = before.unfailing ≡ true → IsErrOf result Failed → Cause

-- What stays in a call, and when it fails: the files that were there but those that `But` names, the count of
-- faults but for a failure, which adds one, and that no call is still to fail, in which case one fails only
-- where `Cause` holds.
pub record Keeps {T : Type 0} (But : ℕ → Type 0) (Cause : Type 0) (before after : StoreView) (result : Result T StoreError) : Type 0 where
  pub there : KeepsThere But before.files after.files
  pub cause : HasCause (λ e. e ≡ Failed) before.faults after.faults result
  pub faults : after.faults ≡ faults_after before.faults result
  pub unfailing : StaysUnfailing before after
  pub failed : FailsOnly before result Cause
