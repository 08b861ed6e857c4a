-- Reports: what an advance writes to the lent list, and whom a call reports.
pub mod AdvancedList
pub mod Reports
pub mod Written
pub mod AnyList
