-- the one file of tables, what is refused in them, and which of them bytes can say
pub mod Encode
pub mod Faults
pub mod Sayable
-- the round trips, record by record
pub mod Fields
pub mod Maps
pub mod HeaderTrip
pub mod NodeTrip
pub mod NumberTrip
pub mod TextTrip
-- theorems
pub mod Trips
pub mod AsRead
pub mod InBytes
pub mod Size
