pub mod InquiryLaws
